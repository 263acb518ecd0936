-- `capi::follow_calls::are_figures` meets its contract: the first figure that differs decides, else the last one. Assumes nothing.
use borrow.Author.Tests.{eq-eqb, ne_eqb}
use Rattle.std.proofs.Common.{refl}
use Rattle.capi.specs.Outcomes.{same_figures}
use Rattle.capi.proofs.follow_calls.are_figures.Goals as goal

pub returns-then-figures-kind : goal.returns-then-figures-kind
unfolding same_figures
returns-then-figures-kind c = rw (← c.noted_figures-figures.ensures, ne_eqb _ _ c.if-figures-kind.true) refl

pub returns-then-figures-jump : goal.returns-then-figures-jump
unfolding same_figures
returns-then-figures-jump c =
    rw (← c.noted_figures-figures.ensures, eq-eqb _ _ c.if-figures-kind.false, ne_eqb _ _ c.if-figures-jump.true) refl

pub returns-then-figures-extent : goal.returns-then-figures-extent
unfolding same_figures
returns-then-figures-extent c =
    rw (
      ← c.noted_figures-figures.ensures,
      eq-eqb _ _ c.if-figures-kind.false,
      eq-eqb _ _ c.if-figures-jump.false,
      ne_eqb _ _ c.if-figures-extent.true,
    ) refl

pub returns : goal.returns
unfolding same_figures
returns c =
    rw (
      ← c.noted_figures-figures.ensures,
      eq-eqb _ _ c.if-figures-kind.false,
      eq-eqb _ _ c.if-figures-jump.false,
      eq-eqb _ _ c.if-figures-extent.false,
    ) refl
