use Rattle.std.proofs.Common.{◌≡◌, sym, ◌∙◌, arith}
use Rattle.decimal.proofs.Leading.{digit-bounds, none-past, back, passed_none, passed-more, passed-all}
use Rattle.decimal.proofs.reading.number_at.Goals as goal

pub loop-end-init : goal.loop-end-init
loop-end-init c = (passed_none _ _, omega arith)

pub returns-then-not-is_digit-clause-value : goal.returns-then-not-is_digit-clause-value
returns-then-not-is_digit-clause-value c =
    passed-all _ _ _ _ c.loop-end.invariant.0 (sym c.is_digit.ensures ∙ c.if-not-is_digit.true)

pub returns-then-not-is_digit-clause-back : goal.returns-then-not-is_digit-clause-back
returns-then-not-is_digit-clause-back c = back

pub with_digit-value-requires : goal.with_digit-value-requires
with_digit-value-requires c = digit-bounds _ (sym c.is_digit.ensures ∙ c.if-not-is_digit.false)

pub loop-end-preserved : goal.loop-end-preserved
loop-end-preserved c = (
  passed-more _ _ _ _ c.loop-end.invariant.0 c.with_digit-value.result c.loop-end-test.true
      (sym c.is_digit.ensures ∙ c.if-not-is_digit.false) c.with_digit-value.ensures,
  omega arith,
)

pub returns-clause-value : goal.returns-clause-value
returns-clause-value c =
    let e : c.max.result ≡ c.loop-end.end = omega arith in
    rw e (passed-all _ _ _ _ c.loop-end.invariant.0 (none-past c.args.s.now c.loop-end.end c.loop-end-test.false))

pub returns-clause-back : goal.returns-clause-back
returns-clause-back c = back
