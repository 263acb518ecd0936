-- The statements that tie decoding to the format and the reader to the writer, over all input. The calls' contracts carry them.
-- Assumes nothing.
use Rattle.std.specs.Prelude.{ℕ, ◌+◌, ◌≤◌, ◌<◌, Bool, true, false, ◌||◌, List, [], ◌∷◌, ◌↔◌, ◌≡◌, eqb, length, take, replicate}
use Rattle.octets.specs.Memory.{over}
use Rattle.rfc4737.specs.Refusals.{octets_follow, long_label, octet_outside, sent_outside, many_arrivals}
use Rattle.rfc4737.specs.Judge.{sent_most, arrivals_most}
use Rattle.sample.specs.Format.{Sample, file_of, label_most, shown_least, longest}
use Rattle.sample.specs.Judge.{FitSample}
use Rattle.sample.specs.Decode.{decode, accepted, sample_of, decoded_refusal}
use Rattle.sample.specs.Calls.{ReadFrom, WrittenTo}
use Rattle.sample.specs.declared.Layout.{Layout}
use Rattle.sample.specs.declared.WriteAnswer.{WriteAnswer}

-- decoding accepts exactly the octets of fit samples
abbrev pub ExactFile : List ℕ → Type 0
ExactFile file = (s : Sample) → (decode file ≡ accepted s) ↔ (FitSample s × (file ≡ file_of s))

-- a sample with these counts of label octets, sent packets and arrivals. Every octet is a space, every size and time is 0, and every
-- arrival is of packet 1
unfoldable pub filled : (label sent arrivals : ℕ) → Sample
filled label sent arrivals =
    record { label = replicate label shown_least; sizes = replicate sent 0; arrivals = replicate arrivals (record { number = 1; time = 0 }) }

-- whether a number is in a list
abbrev pub among : ℕ → List ℕ → Bool
among n [] = false
among n (m ∷ l) = eqb n m || among n l

-- the length of a file, compared with the longest sample
pub record Lengths (file : List ℕ) : Type 0 where
  -- an accepted file is no longer
  pub most : (s : Sample) → decode file ≡ accepted s → length file ≤ longest
  -- some accepted file is as long: that of a sample with the greatest counts
  pub reached : decode (file_of (filled label_most sent_most arrivals_most)) ≡ accepted (filled label_most sent_most arrivals_most)
  pub reached_by : length (file_of (filled label_most sent_most arrivals_most)) ≡ longest
  -- a longer file is refused with 2, 3, 13, 4 or 5
  pub longer : longest < length file
      → among (decoded_refusal (decode file)) (octets_follow ∷ long_label ∷ octet_outside ∷ sent_outside ∷ many_arrivals ∷ []) ≡ true
  -- and it decodes as its first octets do, of which there is one more than the longest sample has
  pub begun : longest < length file → decode file ≡ decode (take (longest + 1) file)

-- an accepted file that is read and written again, its label with it, gives the same octets
abbrev pub WrittenAgain : List ℕ → Type 0
WrittenAgain file =
    (sizes numbers times sizes' numbers' times' out out' : List ℕ) (read : Layout) (written : WriteAnswer)
    → ReadFrom file sizes numbers times read sizes' numbers' times'
    → read.refusal ≡ 0
    → length file ≤ length out
    → WrittenTo (sample_of (decode file)).label (take read.sent sizes') (take read.arrivals numbers') (take read.arrivals times')
    out written out'
    → (written ≡ record { refusal = 0; length = length file }) × (out' ≡ over file out)

-- reading a file that was written from a label and lists gives the same label and lists
pub record SameLists (label sizes numbers times file sizes₀ numbers₀ times₀ : List ℕ) (answer : Layout)
    (sizes' numbers' times' : List ℕ) : Type 0 where
  pub layout : answer ≡ record { refusal = 0; label = length label; sent = length sizes; arrivals = length numbers }
  pub same_label : (sample_of (decode file)).label ≡ label
  pub same_sizes : sizes' ≡ over sizes sizes₀
  pub same_numbers : numbers' ≡ over numbers numbers₀
  pub same_times : times' ≡ over times times₀

-- an accepted label and lists that are written and read again, into lists that are long enough, are the same label and lists
abbrev pub ReadAgain : (label sizes numbers times : List ℕ) → Type 0
ReadAgain label sizes numbers times =
    (out out' sizes₀ numbers₀ times₀ sizes' numbers' times' : List ℕ) (written : WriteAnswer) (read : Layout)
    → WrittenTo label sizes numbers times out written out'
    → written.refusal ≡ 0
    → length sizes ≤ length sizes₀
    → length numbers ≤ length numbers₀
    → length times ≤ length times₀
    → ReadFrom (take written.length out') sizes₀ numbers₀ times₀ read sizes' numbers' times'
    → SameLists label sizes numbers times (take written.length out') sizes₀ numbers₀ times₀ read sizes' numbers' times'
