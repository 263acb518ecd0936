-- What was read, written again, is the file.
use Rattle.std.proofs.Common.{w8}
use Rattle.octets.proofs.Below.{below-fits}
use Rattle.sample.proofs.RoundTrips.{written-again}
use Rattle.sample.proofs.read.Goals as goal

pub returns-clause-again : goal.returns-clause-again
returns-clause-again c = written-again c.args.file.now (below-fits w8 c.args.file.now c.type_inv.file)
