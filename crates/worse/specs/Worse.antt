-- Which of two samples has the greater reordered ratio (RFC 4737, section 4.1), compared as fractions of whole numbers, and its label.
-- Assumes nothing.
use Rattle.std.specs.Prelude.{ℕ, ◌+◌, ◌*◌, Bool, cond, List, [], ◌∷◌, ltb, eqb}
use Rattle.rfc4737.specs.declared.Counts.{Counts}
use Rattle.rfc4737.specs.Refusals.{first_refusal}
use Rattle.sample.specs.Decode.{Decoded, sample_of, decoded_refusal}
use Rattle.sample.specs.Calls.{label_place}
use Rattle.metrics.specs.Figures.{sample_counts}
use Rattle.sample.specs.Output.{if_none}
use Rattle.worse.specs.declared.Comparison.{Comparison}
use Rattle.worse.specs.declared.Fraction.{Fraction}
use Rattle.worse.specs.declared.Link.{Link}
use Rattle.worse.specs.declared.Link.TheVariants.{Refused, First, Second}

-- ---- the ratios

-- the reordered ratio from the counts of a sample: the reordered packets over L. If L = 0 it is undefined, and counts as 0 over 1
unfoldable pub reordered_ratio : Counts → Fraction
reordered_ratio c = cond (eqb c.arrived 0) (record { part = 0; whole = 1 }) (record { part = c.reordered; whole = c.arrived })

-- whether f is greater than g, compared over their common denominator
unfoldable pub greater : Fraction → Fraction → Bool
greater f g = ltb (g.part * f.whole) (f.part * g.whole)

-- the reordered ratio of a decoded file
unfoldable pub ratio_in : Decoded → Fraction
ratio_in d = reordered_ratio (sample_counts d).counts

-- ---- the worse one

-- the refusal: the first sample's, then the second's
unfoldable pub refusal_of_both : Decoded → Decoded → ℕ
refusal_of_both a b = first_refusal (decoded_refusal a ∷ decoded_refusal b ∷ [])

-- the sample with the greater reordered ratio, the first if they are equal; none if a sample is refused
unfoldable pub worse_of : Decoded → Decoded → Link
worse_of a b = if_none (refusal_of_both a b) (cond (greater (ratio_in b) (ratio_in a)) Second First) Refused

-- the refusal and the worse sample
unfoldable pub comparison_of : Decoded → Decoded → Comparison
comparison_of a b = record { refusal = refusal_of_both a b; link = worse_of a b }

-- ---- its label

module _ {ℓ} {A : Type ℓ} where
  -- the value that a link chooses: the first sample's, the second's, or `none` if a sample is refused
  abbrev pub chosen : A → A → A → Link → A
  chosen none first second Refused = none
  chosen none first second First = first
  chosen none first second Second = second

-- the label of the worse sample; empty if a sample is refused
unfoldable pub worse_label : Decoded → Decoded → List ℕ
worse_label a b = chosen [] (sample_of a).label (sample_of b).label (worse_of a b)

-- the offset of the label in the worse sample; 0 if a sample is refused
unfoldable pub worse_start : Decoded → Decoded → ℕ
worse_start a b = chosen 0 (label_place a) (label_place b) (worse_of a b)

-- a place in memory is a slice of the caller's and an offset into it. This is the place n octets after the place p
abbrev pub place_in : ℕ × ℕ → ℕ → ℕ × ℕ
place_in p n = (p.0, n + p.1)

-- the place of the label of the worse sample, for samples at the places p and q; p if a sample is refused
unfoldable pub worse_place : Decoded → Decoded → ℕ × ℕ → ℕ × ℕ → ℕ × ℕ
worse_place a b p q = chosen p (place_in p (label_place a)) (place_in q (label_place b)) (worse_of a b)
