-- `buffering::least` meets its contract. The file's own refusal comes first (`least-refused`), then 9 (`least-outside`). Else the bounds
-- are at first 0 and the greatest need (`start`), and when they meet they are the least size (`met`). Assumes nothing.
use Rattle.std.proofs.Common.{◌∙◌, sym}
use Rattle.rfc4737.proofs.Due.{between}
use Rattle.metrics.proofs.Accommodation.{steps-refusal, steps-greatest}
use Rattle.buffering.proofs.Sizes.{start, met, sizes-are-least, one-least, more-is-no-worse, all-is-greatest, least-refused, least-outside, least-found}
use Rattle.buffering.proofs.Restored.{restores}
use Rattle.buffering.proofs.Held.{holds-offset}
use Rattle.buffering.proofs.InOrder.{restores-order}
use Rattle.buffering.proofs.least.Goals as goal

pub returns-then-steps-ne-NONE : goal.returns-then-steps-ne-NONE
returns-then-steps-ne-NONE c =
    record {
      value = least-refused _ _ _ _ _ (steps-refusal _ _ _ _ _ c.accommodated_steps-steps.ensures) c.if-steps-ne-NONE.true;
      restores = restores c.args.file.now (λ i. (c.type_inv.file i).fits);
      held = holds-offset;
      order = restores-order;
      least = sizes-are-least;
      one = one-least;
      more = more-is-no-worse;
      all = all-is-greatest;
    }

pub returns-then-outside : goal.returns-then-outside
returns-then-outside c =
    let refusal = steps-refusal _ _ _ _ _ c.accommodated_steps-steps.ensures in
    record {
      value =
          rw c.number.ensures
          (least-outside _ _ _ _ (sym refusal ∙ c.if-steps-ne-NONE.false) (sym c.outside.ensures ∙ c.if-outside.true));
      restores = restores c.args.file.now (λ i. (c.type_inv.file i).fits);
      held = holds-offset;
      order = restores-order;
      least = sizes-are-least;
      one = one-least;
      more = more-is-no-worse;
      all = all-is-greatest;
    }

pub loop-bounds-init : goal.loop-bounds-init
loop-bounds-init c =
    rw (steps-greatest _ _ _ _ _ c.accommodated_steps-steps.ensures)
    (start _ _ _ _ (between 1 _ _ (sym c.outside.ensures ∙ c.if-outside.false)).1)

pub returns : goal.returns
returns c =
    let refusal = steps-refusal _ _ _ _ _ c.accommodated_steps-steps.ensures in
    record {
      value =
          least-found _ _ _ _ (sym refusal ∙ c.if-steps-ne-NONE.false) (sym c.outside.ensures ∙ c.if-outside.false) _
          (met _ _ _ _ _ c.loop-bounds.invariant c.loop-bounds-test.false);
      restores = restores c.args.file.now (λ i. (c.type_inv.file i).fits);
      held = holds-offset;
      order = restores-order;
      least = sizes-are-least;
      one = one-least;
      more = more-is-no-worse;
      all = all-is-greatest;
    }
