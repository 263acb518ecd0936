-- What the calls return, and what lent memory (the caller's buffers) holds after them. Assumes nothing.
use Rattle.std.specs.Prelude.{ℕ, Bool, cond, ◌||◌, Result, Ok, Err, List, ◌≡◌, ltb, length}
use Rattle.octets.specs.Memory.{over}
use Rattle.rfc4737.specs.declared.refusal.Refusal.{Refusal}
use Rattle.rfc4737.specs.Refused.{number_of}
use Rattle.rfc4737.specs.Refusals.{output_short}
use Rattle.rfc4737.specs.Judge.{numbers_of, times_of, arrivals_from}
use Rattle.sample.specs.Format.{Sample, items_at, file_of}
use Rattle.sample.specs.Judge.{sample_refusal}
use Rattle.sample.specs.Decode.{Decoded, refused, accepted, decode, sample_of, layout_of}
use Rattle.sample.specs.Output.{Output}
use Rattle.sample.specs.declared.Layout.{Layout}
use Rattle.sample.specs.declared.WriteAnswer.{WriteAnswer}

-- ---- the check

-- the layout of a file that was checked, also of a refused one
abbrev pub layout_in : Result Layout Refusal → Layout
layout_in (Ok layout) = layout
layout_in (Err refusal) = layout_of (refused (number_of refusal))

-- ---- the label

-- the offset of the part of the file that is shown as the label: after the count, or with a refusal 0
abbrev pub label_place : Decoded → ℕ
label_place (refused r) = 0
label_place (accepted s) = items_at 0

-- ---- the reader

-- whether one of three lists, of the lengths `sizes`, `numbers` and `times`, is too short for a file of this layout
unfoldable pub lists_short : (layout : Layout) (sizes numbers times : ℕ) → Bool
lists_short layout sizes numbers times = ltb sizes layout.sent || (ltb numbers layout.arrivals || ltb times layout.arrivals)

-- a decoded file, refused with 8 if the caller's lists are too short for its sample; the file's own refusals come first
unfoldable pub unless_short : (short : Bool) → Decoded → Decoded
unless_short short (refused r) = refused r
unless_short short (accepted s) = cond short (refused output_short) (accepted s)

-- what a file decodes to if lists of these lengths are to be filled
unfoldable pub decode_into : (sizes numbers times : ℕ) (file : List ℕ) → Decoded
decode_into sizes numbers times file = unless_short (lists_short (layout_of (decode file)) sizes numbers times) (decode file)

-- the answer for a decoded file, and three lists after the call: the sample's values from their start, all else as it was
pub record ListsFilled (d : Decoded) (sizes numbers times : List ℕ) (answer : Layout) (sizes' numbers' times' : List ℕ) : Type 0 where
  pub layout : answer ≡ layout_of d
  pub filled_sizes : sizes' ≡ over (sample_of d).sizes sizes
  pub filled_numbers : numbers' ≡ over (numbers_of (sample_of d).arrivals) numbers
  pub filled_times : times' ≡ over (times_of (sample_of d).arrivals) times

-- the reader's answer, and the three lists after it
abbrev pub ReadFrom : (file sizes numbers times : List ℕ) → Layout → (sizes' numbers' times' : List ℕ) → Type 0
ReadFrom file sizes numbers times answer sizes' numbers' times' =
    ListsFilled (decode_into (length sizes) (length numbers) (length times) file) sizes numbers times answer sizes' numbers' times'

-- ---- the writer

-- the sample of a label and lists
abbrev pub sample_from : (label sizes numbers times : List ℕ) → Sample
sample_from label sizes numbers times = record { label = label; sizes = sizes; arrivals = arrivals_from numbers times }

-- the writer's answer, and the caller's buffer after it, which begins with the sample's file
abbrev pub WrittenTo : (label sizes numbers times out : List ℕ) → WriteAnswer → List ℕ → Type 0
WrittenTo label sizes numbers times out answer out' =
    Output (sample_refusal label sizes numbers times) (file_of (sample_from label sizes numbers times)) out answer out'
