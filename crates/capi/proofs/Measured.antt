-- A call in the measure with number n, for a decoded file d. If n is the number of a measure m, the call is made for the file; else for a
-- refused file, which has no answers. r is the refusal for a number that is no measure, x is the answer of the call. Assumes nothing.
use Prim.Native.Nat.{ℕ, zero, suc, ◌<◌}
use native.Mathlib.Omega.{arith}
use mathlib.Core.Bool.{true, false}
use mathlib.Core.Path.{◌≡◌, refl, sym, ap, ◌∙◌}
use mathlib.Core.List.{List, [], ◌∷◌}
use lib.ListN.{replicate}
use Rattle.rfc4737.specs.declared.Measure.{Measure}
use Rattle.rfc4737.specs.Refusals.{outside, first_refusal, asked_outside}
use Rattle.rfc4737.specs.Arrivals.{count, each, each_after}
use Rattle.rfc4737.specs.Answer.{answers}
use Rattle.rfc4737.specs.Runs.{arrived}
use Rattle.rfc4737.specs.Needs.{accommodated, greatest_need, greatest}
use Rattle.sample.specs.Decode.{Decoded, refused, decoded_refusal}
use Rattle.metrics.specs.declared.SampleAccommodated.{SampleAccommodated}
use Rattle.metrics.specs.declared.SampleSteps.{SampleSteps}
use Rattle.metrics.specs.Figures.{sample_accommodated, step_count, sizes_from, sample_steps}
use Rattle.buffering.specs.declared.SampleLeast.{SampleLeast}
use Rattle.buffering.specs.Least.{sample_least}
use Rattle.buffering.proofs.Sizes.{least-refused}
use Rattle.capi.specs.Buffering.{measure_of, with_measure, steps_told}

-- ---- of a refused file

accommodated-none : (m : Measure) (size r : ℕ) → record { refusal = r; accommodated = 0; arrived = 0 }
    ≡ sample_accommodated (refused r) m size
unfolding sample_accommodated accommodated arrived count answers each each_after
accommodated-none m size r = refl

steps-none : (m : Measure) (low shift r : ℕ) → steps_told r (replicate (suc (suc step_count)) 0) ≡ sample_steps (refused r) m low shift
unfolding sample_steps sizes_from accommodated arrived greatest_need greatest count answers each each_after
steps-none m low shift r = refl

-- the refusal of what is asked in no measure is one
is-refusal : (r : ℕ) → 0 < first_refusal (r ∷ asked_outside ∷ [])
is-refusal zero = omega arith
is-refusal (suc r) = omega arith

-- ---- by the number

module _ (n : ℕ) (d : Decoded) where
  module _ (e : outside 0 2 n ≡ true) (r : ℕ) (f : r ≡ first_refusal (decoded_refusal d ∷ asked_outside ∷ [])) where
    none : with_measure n d ≡ refused r
    unfolding with_measure
    none = rw (e, f) refl

    pub accommodated-in-none : (size : ℕ)
        → record { refusal = r; accommodated = 0; arrived = 0 } ≡ sample_accommodated (with_measure n d) (measure_of n) size
    accommodated-in-none size =
        accommodated-none (measure_of n) size r ∙ ap (λ (x : Decoded). sample_accommodated x (measure_of n) size) (sym none)

    pub steps-in-none : (low shift : ℕ)
        → steps_told r (replicate (suc (suc step_count)) 0) ≡ sample_steps (with_measure n d) (measure_of n) low shift
    steps-in-none low shift =
        steps-none (measure_of n) low shift r ∙ ap (λ (x : Decoded). sample_steps x (measure_of n) low shift) (sym none)

    pub least-in-none : (part whole : ℕ) → record { refusal = r; size = 0 } ≡ sample_least (with_measure n d) (measure_of n) part whole
    least-in-none part whole =
        least-refused (refused r) (measure_of n) part whole r refl (λ z. omega (arith, z, f, is-refusal (decoded_refusal d)))
        ∙ ap (λ (x : Decoded). sample_least x (measure_of n) part whole) (sym none)

  module _ (e : outside 0 2 n ≡ false) (m : Measure) (f : m ≡ measure_of n) where
    some : with_measure n d ≡ d
    unfolding with_measure
    some = rw e refl

    pub accommodated-in : (size : ℕ) (x : SampleAccommodated) → x ≡ sample_accommodated d m size
        → x ≡ sample_accommodated (with_measure n d) (measure_of n) size
    accommodated-in size x h =
        h ∙ ap (λ (k : Measure). sample_accommodated d k size) f ∙ ap (λ (y : Decoded). sample_accommodated y (measure_of n) size) (sym some)

    pub steps-in : (low shift : ℕ) (x : SampleSteps) (figures : List ℕ) → x ≡ sample_steps d m low shift
        → figures ≡ x.arrived ∷ x.greatest ∷ x.counts
        → steps_told x.refusal figures ≡ sample_steps (with_measure n d) (measure_of n) low shift
    steps-in low shift x figures h e =
        ap (steps_told x.refusal) e ∙ h
        ∙ ap (λ (k : Measure). sample_steps d k low shift) f ∙ ap (λ (y : Decoded). sample_steps y (measure_of n) low shift) (sym some)

    pub least-in : (part whole : ℕ) (x : SampleLeast) → x ≡ sample_least d m part whole
        → x ≡ sample_least (with_measure n d) (measure_of n) part whole
    least-in part whole x h =
        h ∙ ap (λ (k : Measure). sample_least d k part whole) f ∙ ap (λ (y : Decoded). sample_least y (measure_of n) part whole) (sym some)
