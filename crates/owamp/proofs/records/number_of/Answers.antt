use Rattle.std.proofs.Common.{arith, rules, w8}
use Rattle.octets.proofs.Below.{below-fits}
use Rattle.owamp.proofs.Reading.{number-stands, four_below}
use Rattle.owamp.proofs.records.number_of.Goals as goal

pub overflow_add-result : goal.overflow_add-result
overflow_add-result c =
    let a = c.args in
    omega (arith, four_below a.records.now a.i 0 (below-fits w8 a.records.now c.type_inv.records) c.number_at.ensures)

pub returns : goal.returns
returns c = number-stands c.args.records.now c.args.i (search rules) c.number_at.ensures
