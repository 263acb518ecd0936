-- The comparison of two decoded files a and b. The refusal of both is the first file's, or the second's if the first has none
-- (`first-refused`, `second-refusal`). If there is a refusal, the link is `Refused`; else the test of both ratios gives it
-- (`compared-refused`, `compared`). The link of the comparison chooses label, start and place (`linked`).
-- r is the refusal, z says that there is none, x is a comparison and l its link, p and q are the places of the two files, t is the result
-- of the test. Assumes nothing.
use Prim.Native.Nat.{ℕ, zero, suc, ◌<◌}
use native.Mathlib.Omega.{arith}
use mathlib.Core.Bool.{Bool, cond}
use mathlib.Core.Path.{◌≡◌, refl, sym, ap, ◌∙◌}
use mathlib.Core.List.{[], ◌∷◌}
use Rattle.rfc4737.proofs.Due.{first-due, first_next, first_one}
use Rattle.sample.specs.Decode.{Decoded, sample_of, decoded_refusal}
use Rattle.sample.specs.Calls.{label_place}
use Rattle.worse.specs.declared.Comparison.{Comparison}
use Rattle.worse.specs.declared.Link.{Link}
use Rattle.worse.specs.declared.Link.TheVariants.{Refused, First, Second}
use Rattle.worse.specs.Worse.{greater, ratio_in, refusal_of_both, worse_of, comparison_of, chosen, worse_label, worse_start, place_in, worse_place}

module _ (a b : Decoded) where
  -- ---- the refusal

  -- the first sample's
  pub first-refused : (r : ℕ) → r ≡ decoded_refusal a → 0 < r → refusal_of_both a b ≡ r
  unfolding refusal_of_both
  first-refused r e h = rw (sym e) (first-due r (decoded_refusal b ∷ []) h)

  -- the second's where the first has none, 0 among them
  pub second-refusal : decoded_refusal a ≡ 0 → (r : ℕ) → r ≡ decoded_refusal b → refusal_of_both a b ≡ r
  unfolding refusal_of_both
  second-refusal z r e = first_next (decoded_refusal a) (decoded_refusal b ∷ []) z ∙ first_one (decoded_refusal b) ∙ sym e

  -- ---- the comparison

  -- with a refusal
  pub compared-refused : (r : ℕ) → refusal_of_both a b ≡ r → 0 < r → record { refusal = r; link = Refused } ≡ comparison_of a b
  unfolding comparison_of worse_of
  compared-refused zero e h = absurd (omega arith)
  compared-refused (suc r) e h = rw e refl

  -- with none, by the outcome of the test of both ratios
  pub compared : refusal_of_both a b ≡ 0 → (t : Bool) → greater (ratio_in b) (ratio_in a) ≡ t
      → record { refusal = 0; link = cond t Second First } ≡ comparison_of a b
  unfolding comparison_of worse_of
  compared z t e = rw (z, e) refl

  -- ---- what is said of the link that is found

  module _ (x : Comparison) (e : x ≡ comparison_of a b) (l : Link) (f : x.link ≡ l) where
    linked : l ≡ worse_of a b
    unfolding comparison_of
    linked = sym f ∙ ap (λ (y : Comparison). y.link) e

    pub label_of : chosen [] (sample_of a).label (sample_of b).label l ≡ worse_label a b
    unfolding worse_label
    label_of = ap (chosen [] (sample_of a).label (sample_of b).label) linked

    pub start_of : chosen 0 (label_place a) (label_place b) l ≡ worse_start a b
    unfolding worse_start
    start_of = ap (chosen 0 (label_place a) (label_place b)) linked

    pub place_of : (p q : ℕ × ℕ) → chosen p (place_in p (label_place a)) (place_in q (label_place b)) l ≡ worse_place a b p q
    unfolding worse_place
    place_of p q = ap (chosen p (place_in p (label_place a)) (place_in q (label_place b))) linked
