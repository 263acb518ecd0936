-- The gap of every record as a number, and what the call that lists them returns. Assumes nothing.
use Rattle.std.specs.Prelude.{◌≡◌, Bool, List, map, ℕ, zero, suc, ltb, length, None, Some}
use Rattle.octets.specs.Memory.{over}
use Rattle.rfc4737.specs.declared.Answer.{Answer}
use Rattle.rfc4737.specs.Gaps.{Gap, gaps}
use Rattle.sample.specs.declared.Layout.{Layout}
use Rattle.sample.specs.Decode.{Decoded, layout_of}
use Rattle.sample.specs.Calls.{unless_short}
use Rattle.metrics.specs.Sample.{sample_arrivals, answers_of}
use Rattle.metrics.specs.Figures.{at_record, record_gap}

-- a gap as a number: 0 for none
abbrev pub gap_number : Gap → ℕ
gap_number None = 0
gap_number (Some p) = p

-- the gap that a number stands for
abbrev pub number_gap : ℕ → Gap
number_gap zero = None
number_gap (suc p) = Some (suc p)

-- the gap of every record of a sample, as a number
unfoldable pub gap_numbers : List Answer → List ℕ
gap_numbers l = map gap_number (gaps l)

-- whether a list is too short for one number for each arrival
abbrev pub list_short : (arrivals places : ℕ) → Bool
list_short arrivals places = ltb places arrivals

-- a decoded file, refused with 8 if a list of this length is too short for its gaps
abbrev pub gaps_into : Decoded → (places : ℕ) → Decoded
gaps_into d places = unless_short (list_short (length (sample_arrivals d)) places) d

-- the call's answer, and the lent list after it: the gaps of all records from its start on, the rest as it was
pub record GapsTo (d : Decoded) (old : List ℕ) (answer : Layout) (new : List ℕ) : Type 0 where
  pub layout : answer ≡ layout_of (gaps_into d (length old))
  pub gaps : new ≡ over (gap_numbers (answers_of (gaps_into d (length old)))) old

-- each number stands for a gap: at every record asked for it is the gap that `gap` returns, and 0 exactly if that is none
pub record GapsTell : Type 0 where
  pub at : (d : Decoded) (asked : ℕ) → number_gap (at_record 0 (gap_numbers (answers_of d)) asked) ≡ (record_gap d asked).gap
