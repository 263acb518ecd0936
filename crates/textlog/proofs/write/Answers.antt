-- What was written, imported again, is the same lists.
use Rattle.std.proofs.Common.{w64}
use Rattle.octets.proofs.Below.{below-fits}
use Rattle.textlog.proofs.Cases.{written-as-given}
use Rattle.textlog.proofs.RoundTrips.{read_again}
use Rattle.textlog.proofs.write.Goals as goal

pub returns-clause-again : goal.returns-clause-again
returns-clause-again c =
    let a = c.args in
    read_again a.k a.numbers.now a.times.now (below-fits w64 a.times.now c.type_inv.times)

pub returns-clause-cases : goal.returns-clause-cases
returns-clause-cases c = written-as-given
