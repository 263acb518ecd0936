-- `capi::buffering_calls::no_measure` meets its contract: the check's refusal if it has one, else 9. Here r is that refusal, s the file's.
-- Assumes nothing.
use Rattle.std.proofs.Common.{arith, ◌≡◌, ◌∙◌, sym, ap, ℕ, ◌<◌, [], ◌∷◌}
use Rattle.rfc4737.specs.Refusals.{first_refusal, asked_outside}
use Rattle.rfc4737.proofs.Due.{first-due, first_next}
use Rattle.sample.specs.declared.Layout.{Layout}
use Rattle.capi.proofs.buffering_calls.no_measure.Goals as goal

own : (r s : ℕ) → r ≡ s → 0 < r → r ≡ first_refusal (s ∷ asked_outside ∷ [])
own r s e h = sym (first-due r (asked_outside ∷ []) h) ∙ ap (λ (x : ℕ). first_refusal (x ∷ asked_outside ∷ [])) e

asked : (r s : ℕ) → r ≡ s → r ≡ 0 → asked_outside ≡ first_refusal (s ∷ asked_outside ∷ [])
asked r s e z = sym (first_next s (asked_outside ∷ []) (sym e ∙ z))

pub returns-then-layout-ne-NONE : goal.returns-then-layout-ne-NONE
returns-then-layout-ne-NONE c =
    own _ _ (ap (λ (y : Layout). y.refusal) c.check-layout.ensures.value) (omega (arith, c.if-layout-ne-NONE.true))

pub returns : goal.returns
returns c =
    c.number.ensures
    ∙ asked _ _ (ap (λ (y : Layout). y.refusal) c.check-layout.ensures.value) c.if-layout-ne-NONE.false
