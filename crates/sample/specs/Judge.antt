-- The refusals of a sample, and fit samples. Assumes nothing.
use Rattle.std.specs.Prelude.{ℕ, ◌^◌, Bool, false, ◌||◌, List, [], ◌∷◌, ◌≡◌, length}
use Rattle.octets.specs.Below.{Below}
use Rattle.rfc4737.specs.Refusals.{outside, refusal_if, first_refusal, long_label, octet_outside}
use Rattle.rfc4737.specs.Judge.{numbers_of, times_of, refusal_of_lists}
use Rattle.sample.specs.Format.{Sample, label_most, shown_least, shown_most}

-- 3: label over 64 octets
abbrev pub judge_label : ℕ → ℕ
judge_label n = refusal_if (outside 0 label_most n) long_label

-- whether one of the octets lies outside hexadecimal 20 to 7E
unfoldable pub some_unshown : List ℕ → Bool
some_unshown [] = false
some_unshown (o ∷ os) = outside shown_least shown_most o || some_unshown os

-- 13: a label octet outside hexadecimal 20 to 7E
abbrev pub judge_octets : List ℕ → ℕ
judge_octets label = refusal_if (some_unshown label) octet_outside

-- the first refusal that applies to a label and lists, 0 if none does: 3, 13, then those of K (the number of sizes) and of the lists
unfoldable pub sample_refusal : (label sizes numbers times : List ℕ) → ℕ
sample_refusal label sizes numbers times =
    first_refusal (judge_label (length label) ∷ judge_octets label ∷ refusal_of_lists (length sizes) numbers times ∷ [])

-- a fit sample: nothing of its label and lists is refused, and every value that is not judged fits its field
pub record FitSample (s : Sample) : Type 0 where
  pub judged : sample_refusal s.label s.sizes (numbers_of s.arrivals) (times_of s.arrivals) ≡ 0
  pub sizes : Below (2 ^ 16) s.sizes
  pub times : Below (2 ^ 64) (times_of s.arrivals)
