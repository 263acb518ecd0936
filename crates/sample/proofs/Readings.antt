-- What the readings say of the tests behind them. A number that is read, by cases on the test: `None` says that it holds, a value that it
-- fails and which value it is (`read-ended`, `read-valued`). A section: by the tests in their order each of its four results is that of its
-- stage (`section-ended` to `section-whole`). Here t is a test, n what is read where it fails, v the value, d a refusal. Assumes nothing.
use Prim.Native.Nat.{ℕ, ◌*◌, ◌^◌, ◌≤◌, ◌<◌}
use native.Mathlib.Nat.{mul-le-mul}
use native.Mathlib.Omega.{arith}
use mathlib.Core.Bool.{Bool, true, false, cond}
use mathlib.Core.Path.{◌≡◌, refl, sym}
use mathlib.Core.List.{List, [], ◌∷◌}
use lib.Dec.{ltb}
use lib.ListN.{length}
use Rattle.std.specs.Prelude.{None, Some}
use Rattle.octets.specs.Below.{Octets}
use Rattle.rfc4737.specs.declared.refusal.Refusal.{Refusal}
use Rattle.rfc4737.specs.Refused.{number_of}
use Rattle.rfc4737.specs.Refusals.{outside, refusal_if, ends_early}
use Rattle.rfc4737.proofs.Refused.{first-err}
use Rattle.sample.specs.Format.{count_width, arrival_width, items_at, end_of}
use Rattle.sample.specs.Decode.{count_at, section_stage}
use Rattle.sample.specs.Private.{reading_to}
use Rattle.sample.proofs.Items.{part-fits}

-- ---- one reading

-- the file ended: the test for it holds
ended : (t : Bool) (n : ℕ) → cond t None (Some n) ≡ None → t ≡ true
ended true n e = refl
ended false n e = cc

-- a value was read: the test fails, and it is that value
valued : (t : Bool) (n v : ℕ) → cond t None (Some n) ≡ Some v → (t ≡ false) × (v ≡ n)
valued true n v e = (cc, cc)
valued false n v e = (refl, cc)

-- no number: the file ends before the place
pub read-ended : (place n : ℕ) (file : List ℕ) → reading_to place n file ≡ None → ltb (length file) place ≡ true
unfolding reading_to
read-ended place n file e = ended (ltb (length file) place) n e

-- a number: the file has the place, and it is that number
pub read-valued : (place n : ℕ) (file : List ℕ) {v : ℕ} → reading_to place n file ≡ Some v → (ltb (length file) place ≡ false) × (v ≡ n)
unfolding reading_to
read-valued place n file {v} e = valued (ltb (length file) place) n v e

-- ---- bounds

-- a count
pub count_fits : (at : ℕ) (file : List ℕ) → Octets file → count_at at file < 2 ^ 16
unfolding count_at
count_fits at file o = part-fits count_width at file o

-- the items of a section
pub section-fits : (width count : ℕ) → width ≤ arrival_width → count < 2 ^ 16 → width * count ≤ arrival_width * 65535
section-fits width count h k =
    let p : count ≤ 65535 = omega arith in
    mul-le-mul h p

-- ---- a section

module _ (at width least most : ℕ) (d : Refusal) (file : List ℕ) where
  -- what its stage refuses
  abbrev stage : ℕ
  stage = section_stage at width (λ (n : ℕ). refusal_if (outside least most n) (number_of d)) file

  -- its count is missing
  pub section-ended : ltb (length file) (items_at at) ≡ true → ends_early ≡ stage
  unfolding section_stage
  section-ended e = simp e

  module _ (e : ltb (length file) (items_at at) ≡ false) where
    -- its count is refused
    pub section-judged : outside least most (count_at at file) ≡ true → number_of d ≡ stage
    unfolding section_stage
    section-judged f = simp (e, f) (sym (first-err d (refusal_if (ltb (length file) (end_of at width (count_at at file))) ends_early ∷ [])))

    module _ (f : outside least most (count_at at file) ≡ false) where
      -- its items are not all there
      pub section-short : ltb (length file) (end_of at width (count_at at file)) ≡ true → ends_early ≡ stage
      unfolding section_stage
      section-short g = simp (e, f, g)

      -- it is whole
      pub section-whole : ltb (length file) (end_of at width (count_at at file)) ≡ false → 0 ≡ stage
      unfolding section_stage
      section-whole g = simp (e, f, g)
