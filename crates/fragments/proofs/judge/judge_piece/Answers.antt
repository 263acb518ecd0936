use Rattle.std.proofs.Common.{sym, ◌∙◌}
use Rattle.fragments.specs.Judge.{judge_piece}
use Rattle.fragments.proofs.judge.judge_piece.Goals as goal

pub returns-then-outside : goal.returns-then-outside
unfolding judge_piece
returns-then-outside c = simp (sym c.outside.ensures ∙ c.if-outside.true)

pub returns-then-is_unfit : goal.returns-then-is_unfit
unfolding judge_piece
returns-then-is_unfit c = simp (sym c.outside.ensures ∙ c.if-outside.false, sym c.is_unfit.ensures ∙ c.if-is_unfit.true)

pub returns-then-too_early : goal.returns-then-too_early
unfolding judge_piece
returns-then-too_early c =
    simp (
      sym c.outside.ensures ∙ c.if-outside.false,
      sym c.is_unfit.ensures ∙ c.if-is_unfit.false,
      sym c.too_early.ensures ∙ c.if-too_early.true,
    )

pub returns : goal.returns
unfolding judge_piece
returns c =
    simp (
      sym c.outside.ensures ∙ c.if-outside.false,
      sym c.is_unfit.ensures ∙ c.if-is_unfit.false,
      sym c.too_early.ensures ∙ c.if-too_early.false,
    )
