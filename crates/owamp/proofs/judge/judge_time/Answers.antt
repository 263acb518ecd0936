use Rattle.std.proofs.Common.{◌<◌, ◌≤◌, ◌^◌, not, sym, ap, ◌∙◌, arith}
use mathlib.Core.Bool.{true≢false}
use borrow.Author.Tests.{lt-ltb, le-ltb}
use Rattle.std.proofs.lemmas.Result.{OkIff-decides}
use Rattle.owamp.specs.Clock.{written_seconds}
use Rattle.owamp.specs.Judge.{seconds_most, judge_time}
use Rattle.owamp.proofs.judge.judge_time.Goals as goal

pub returns-then-is_err : goal.returns-then-is_err
unfolding judge_time
returns-then-is_err c =
    let n : c.seconds_of.result < 2 ^ 32 → ⊥ =
    λ p. true≢false (sym ((OkIff-decides _ _ _ c.try_from.ensures).1 p) ∙ c.is_err.ensures.negation ∙ ap not c.if-is_err.true) in
    let h : seconds_most < written_seconds c.args.time = omega (arith, c.seconds_of.ensures, n) in
    simp (lt-ltb _ _ h)

pub returns : goal.returns
unfolding judge_time
returns c =
    let p : c.seconds_of.result < 2 ^ 32 = (OkIff-decides _ _ _ c.try_from.ensures).0 (c.is_err.ensures.negation ∙ ap not c.if-is_err.false) in
    let h : written_seconds c.args.time ≤ seconds_most = omega (arith, c.seconds_of.ensures, p) in
    simp (le-ltb _ _ h)
