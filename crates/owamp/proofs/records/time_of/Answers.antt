use Rattle.std.proofs.Common.{arith, rules, w8}
use Rattle.octets.proofs.Below.{below-fits}
use Rattle.owamp.proofs.Reading.{time-stands, four_below}
use Rattle.owamp.proofs.records.time_of.Goals as goal

pub overflow_mul-result : goal.overflow_mul-result
overflow_mul-result c =
    let a = c.args in
    omega (arith, four_below a.records.now a.i 16 (below-fits w8 a.records.now c.type_inv.records) c.number_at-seconds.ensures)

pub overflow_add-result : goal.overflow_add-result
overflow_add-result c =
    let a = c.args in
    let o = below-fits w8 a.records.now c.type_inv.records in
    omega (
      arith,
      four_below a.records.now a.i 16 o c.number_at-seconds.ensures,
      four_below a.records.now a.i 20 o c.number_at-fraction.ensures,
    )

pub returns : goal.returns
returns c = time-stands c.args.records.now c.args.i (search rules) c.number_at-seconds.ensures c.number_at-fraction.ensures
