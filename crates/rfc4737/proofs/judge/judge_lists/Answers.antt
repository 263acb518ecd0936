use Rattle.std.proofs.Common.{inl, inr}
use Rattle.std.proofs.lemmas.Result.{err_from_is_err_and}
use Rattle.rfc4737.specs.Judge.{arrivals_from, judge}
use Rattle.rfc4737.proofs.Pairs.{arrivals-none}
use Rattle.rfc4737.proofs.Judged.{left-err, left-ok}
use Rattle.rfc4737.proofs.judge.judge_lists.Goals as goal

-- the arrival is refused
pub returns-in_err-judged : goal.returns-in_err-judged
unfolding arrivals_from
returns-in_err-judged c =
    let p = err_from_is_err_and c.from_residual.result c.from_residual.ensures.1 in
    rw (c.loop-number.invariant, c.in-Some.ensures.steps.0, c.in-Some.ensures.steps.1, p.1, p.2)
    (left-err _ _ _ _ _ (rw c.in_err-judged.was at c.judge_next-judged.ensures.refusal))

-- it is not
pub loop-number-preserved : goal.loop-number-preserved
unfolding arrivals_from
loop-number-preserved c =
    rw (c.loop-number.invariant, c.in-Some.ensures.steps.0, c.in-Some.ensures.steps.1, c.judge_next-judged.ensures.next)
    (left-ok _ _ _ _ (rw c.in_ok-judged.was at c.judge_next-judged.ensures.refusal))

-- no arrival is left
pub returns : goal.returns
unfolding judge
returns c =
    rw (
      c.loop-number.invariant,
      arrivals-none _ _
          (elim c.in-None.ensures.steps [ inl h ↦ inl h.1.0 | inr h ↦ inr h.1.0 ]),
    )
