use Rattle.std.proofs.Common.{sym, ◌∙◌, arith, rules}
use Rattle.receiver.proofs.Fits.{places-false}
use Rattle.receiver.proofs.FitTests.{positions-unfit, numbers-unfit, times-decide}
use Rattle.receiver.proofs.Places.are_fit.Goals as goal
use Rattle.receiver.proofs.Places.are_fit.Goals.{then-kept-gt-WINDOW-via-then-kept-gt-WINDOW, then-kept-gt-WINDOW-via-else-kept-gt-WINDOW+then-stream, then-all_within, else-all_within}

pub returns-then-kept-gt-WINDOW : goal.returns-then-kept-gt-WINDOW
returns-then-kept-gt-WINDOW c =
    elim c.then-kept-gt-WINDOW.branch [
      | then-kept-gt-WINDOW-via-then-kept-gt-WINDOW w ↦ places-false _ _ (λ h. omega arith)
      | then-kept-gt-WINDOW-via-else-kept-gt-WINDOW+then-stream w ↦ places-false _ _ (λ h. omega arith)
    ]

pub returns-then-all_within-2 : goal.returns-then-all_within-2
returns-then-all_within-2 c =
    elim c.if-all_within.branch [
      | then-all_within w ↦ times-decide _ _ (omega arith) (omega arith) (sym c.all_within.ensures ∙ w.if-all_within.true)
          (sym w.all_within-then-all_within.ensures ∙ sym w.value-is ∙ c.if-all_within-2.true) _ c.none_after.ensures
      | else-all_within w ↦ cc
    ]

pub returns-else-all_within-2 : goal.returns-else-all_within-2
returns-else-all_within-2 c =
    elim c.if-all_within.branch [
      | then-all_within w ↦ c.if-all_within-2.false
          ∙ numbers-unfit _ _ (sym w.all_within-then-all_within.ensures ∙ sym w.value-is ∙ c.if-all_within-2.false)
      | else-all_within w ↦ c.if-all_within-2.false ∙ positions-unfit _ _ (sym c.all_within.ensures ∙ w.if-all_within.false)
    ]
