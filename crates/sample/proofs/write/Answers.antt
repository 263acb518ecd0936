-- What was written, read again, is the same label and lists.
use Rattle.std.proofs.Common.{w16, w64}
use Rattle.octets.proofs.Below.{below-fits}
use Rattle.sample.proofs.RoundTrips.{read_again}
use Rattle.sample.proofs.write.Goals as goal

pub returns-clause-again : goal.returns-clause-again
returns-clause-again c =
    let a = c.args in
    read_again a.label.now a.sizes.now a.numbers.now a.times.now (below-fits w16 a.sizes.now c.type_inv.sizes) (below-fits w64 a.times.now c.type_inv.times)
