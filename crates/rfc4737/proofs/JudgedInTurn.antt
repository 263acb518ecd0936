-- A loop that judges in turn: rs are the refusals of all elements, and the first that applies of all, q, is that of those from i on (inv).
-- Where r is the refusal at i these are r and the rest: r settles it if it applies (`turn-stop`), else the rest decides (`turn-next`), and
-- at the end nothing is left (`turn-done`). z is what is read past the end. Assumes nothing.
use Prim.Native.Nat.{ℕ, suc, ◌+◌, ◌≤◌, ◌<◌}
use native.Mathlib.Numerals.{add-one}
use mathlib.Core.List.{List, ◌∷◌}
use mathlib.Core.Path.{◌≡◌, sym, ap, ◌∙◌}
use lib.ListN.{length, get_or, drop, drop_of_length-le}
use lib.Seq.{drop-cons}
use Rattle.rfc4737.specs.Refusals.{first_refusal}
use Rattle.rfc4737.proofs.Due.{first-stop, first_next}

module _ (rs : List ℕ) (i : ℕ) {q : ℕ} (inv : q ≡ first_refusal (drop i rs)) where
  module _ {r : ℕ} (z : ℕ) (h : i < length rs) (here : r ≡ get_or rs i z) where
    -- what is left, as its first and the rest
    left : q ≡ first_refusal (r ∷ drop (suc i) rs)
    left = inv ∙ ap first_refusal (drop-cons rs i z h ∙ ap (λ (x : ℕ). x ∷ drop (suc i) rs) (sym here))

    -- the one at i applies
    pub turn-stop : (r ≡ 0 → ⊥) → r ≡ q
    turn-stop n = first-stop r (drop (suc i) rs) left n

    -- it is not
    pub turn-next : r ≡ 0 → q ≡ first_refusal (drop (i + 1) rs)
    turn-next n = left ∙ first_next r (drop (suc i) rs) n ∙ ap (λ (n : ℕ). first_refusal (drop n rs)) (sym (add-one i))

  -- at the end
  pub turn-done : length rs ≤ i → 0 ≡ q
  turn-done h = sym (inv ∙ ap first_refusal (drop_of_length-le rs h))
