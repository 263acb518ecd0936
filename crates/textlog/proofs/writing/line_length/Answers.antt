-- A line is the digits of the number and of the milliseconds, at most 20 each, and six octets more (`line-long`).
use Rattle.std.proofs.Common.{◌/◌, arith}
use Rattle.decimal.proofs.Laws.{at-most-20}
use Rattle.textlog.proofs.WrittenLines.{line-long}
use Rattle.textlog.proofs.writing.line_length.Goals as goal

pub overflow_add-result : goal.overflow_add-result
overflow_add-result c =
    let a = c.args in
    let p = at-most-20 a.number (omega (arith, c.ranges.number.fits)) in
    let q = at-most-20 (a.time / 1000) (omega (arith, c.ranges.time.fits)) in
    omega (arith, c.count.ensures, c.count-2.ensures)

pub overflow_add-result-2 : goal.overflow_add-result-2
overflow_add-result-2 c =
    let a = c.args in
    let p = at-most-20 a.number (omega (arith, c.ranges.number.fits)) in
    let q = at-most-20 (a.time / 1000) (omega (arith, c.ranges.time.fits)) in
    omega (arith, c.count.ensures, c.count-2.ensures)

pub returns : goal.returns
returns c =
    let a = c.args in
    let p = at-most-20 a.number (omega (arith, c.ranges.number.fits)) in
    let q = at-most-20 (a.time / 1000) (omega (arith, c.ranges.time.fits)) in (
      omega (arith, line-long (record { number = a.number; time = a.time }), c.count.ensures, c.count-2.ensures),
      omega (arith, c.count.ensures, c.count-2.ensures),
    )
