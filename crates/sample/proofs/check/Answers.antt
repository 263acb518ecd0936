-- The theorems that the contract carries.
use Rattle.std.proofs.Common.{refl, w8}
use Rattle.octets.proofs.Below.{below-fits}
use Rattle.sample.proofs.Exact.{exact}
use Rattle.sample.proofs.Longer.{lengths}
use Rattle.sample.proofs.Cases.{in_order}
use Rattle.sample.proofs.check.Goals as goal

pub returns-clause-exact : goal.returns-clause-exact
returns-clause-exact c = exact c.args.file.now (below-fits w8 c.args.file.now c.type_inv.file)

pub returns-clause-lengths : goal.returns-clause-lengths
returns-clause-lengths c = (refl, lengths c.args.file.now (below-fits w8 c.args.file.now c.type_inv.file))

pub returns-clause-order : goal.returns-clause-order
returns-clause-order c = in_order
