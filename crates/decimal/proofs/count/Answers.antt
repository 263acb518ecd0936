use Rattle.std.proofs.Common.{ap, length, arith}
use Rattle.decimal.proofs.Laws.{one-digit, cut_off, exactly, at-most-20}
use Rattle.decimal.proofs.count.Goals as goal

-- v has at most 20 digits, so no sum wraps
pub overflow_add-cut : goal.overflow_add-cut
overflow_add-cut c = omega (arith, at-most-20 c.args.v c.ranges.v.fits)

pub loop-rest-preserved : goal.loop-rest-preserved
loop-rest-preserved c = omega (arith, cut_off 4 c.loop-rest.rest (omega arith))

pub overflow_add-result : goal.overflow_add-result
overflow_add-result c = omega (arith, at-most-20 c.args.v c.ranges.v.fits)

pub returns-then-rest-lt10 : goal.returns-then-rest-lt10
returns-then-rest-lt10 c = omega (arith, ap length (one-digit c.loop-rest.rest (omega arith)))

pub overflow_add-result-then-rest-lt100 : goal.overflow_add-result-then-rest-lt100
overflow_add-result-then-rest-lt100 c = omega (arith, at-most-20 c.args.v c.ranges.v.fits)

pub returns-then-rest-lt100 : goal.returns-then-rest-lt100
returns-then-rest-lt100 c = omega (arith, exactly 1 c.loop-rest.rest (omega arith) (omega arith))

pub overflow_add-result-then-rest-lt1000 : goal.overflow_add-result-then-rest-lt1000
overflow_add-result-then-rest-lt1000 c = omega (arith, at-most-20 c.args.v c.ranges.v.fits)

pub returns-then-rest-lt1000 : goal.returns-then-rest-lt1000
returns-then-rest-lt1000 c = omega (arith, exactly 2 c.loop-rest.rest (omega arith) (omega arith))

pub overflow_add-result-2 : goal.overflow_add-result-2
overflow_add-result-2 c = omega (arith, at-most-20 c.args.v c.ranges.v.fits)

pub returns : goal.returns
returns c = omega (arith, exactly 3 c.loop-rest.rest (omega arith) (omega arith))
