-- The sample file of a label, K packets of one payload size, and the arrivals of the input. Assumes nothing.
use Rattle.std.specs.Prelude.{ℕ, ◌≤◌, List, [], ◌∷◌, ◌≡◌, length, take, replicate}
use Rattle.rfc4737.specs.declared.Arrival.{Arrival}
use Rattle.rfc4737.specs.Judge.{sent_most, arrivals_most, numbers_of, times_of, refusal_of_lists}
use Rattle.rfc4737.specs.Refusals.{first_refusal}
use Rattle.sample.specs.Format.{Sample, file_of}
use Rattle.sample.specs.Judge.{judge_label, judge_octets}
use Rattle.sample.specs.Output.{Output}
use Rattle.sample.specs.declared.WriteAnswer.{WriteAnswer}
use Rattle.textlog.specs.Decode.{judge_log, log_arrivals}
use Rattle.textlog.specs.declared.LogImport.{LogImport}
use Rattle.shortnumbers.specs.Number.{range_of}
use Rattle.shortlog.specs.Found.{judge_short_log, found_arrivals}
use Rattle.owamp.specs.Judge.{records_refusal}
use Rattle.owamp.specs.Calls.{imported_arrivals}
use Rattle.cmd_import.specs.declared.convert.Kind.{Kind}
use Rattle.cmd_import.specs.declared.convert.Kind.TheVariants.{Log, Log8, Log10, Records}

-- ---- the input

-- what is refused of the input, by its kind
abbrev pub input_refusal : Kind → (k : ℕ) (input : List ℕ) → ℕ
input_refusal Log k input = (judge_log k input).refusal
input_refusal Log8 k input = (judge_short_log (range_of 8) k input).refusal
input_refusal Log10 k input = (judge_short_log (range_of 10) k input).refusal
input_refusal Records k input = records_refusal k input

-- the arrivals of the input
abbrev pub input_arrivals : Kind → (input : List ℕ) → List Arrival
input_arrivals Log input = log_arrivals input
input_arrivals Log8 input = found_arrivals (range_of 8) input
input_arrivals Log10 input = found_arrivals (range_of 10) input
input_arrivals Records input = imported_arrivals input

-- ---- the arrivals in two lists

-- both lists are long enough for the arrivals of any sample
pub record RoomForAny (numbers times : List ℕ) : Type 0 where
  pub in_numbers : arrivals_most ≤ length numbers
  pub in_times : arrivals_most ≤ length times

-- the first `arrivals` entries of two lists are the arrivals l, and K and l are not refused
pub record Holds (k arrivals : ℕ) (numbers times : List ℕ) (l : List Arrival) : Type 0 where
  pub sent : k ≤ sent_most
  pub in_numbers : (arrivals ≤ length numbers) × (take arrivals numbers ≡ numbers_of l)
  pub in_times : (arrivals ≤ length times) × (take arrivals times ≡ times_of l)
  pub judged : refusal_of_lists k (numbers_of l) (times_of l) ≡ 0

-- the answer of an import, and the lists after it: they hold the arrivals of the input unless it is refused
pub record ImportedTo (kind : Kind) (k : ℕ) (input : List ℕ) (answer : LogImport) (numbers times : List ℕ) : Type 0 where
  pub refusal : answer.refusal ≡ input_refusal kind k input
  pub holds : answer.refusal ≡ 0 → Holds k answer.arrivals numbers times (input_arrivals kind input)

-- ---- the sample file

-- the sample: the label, K payload sizes that are all `size`, and the arrivals
abbrev pub labelled_sample : (label : List ℕ) (k size : ℕ) → List Arrival → Sample
labelled_sample label k size l = record { label = label; sizes = replicate k size; arrivals = l }

-- what is refused: first the input, then the label, with 3 or 13
unfoldable pub convert_refusal : (refusal : ℕ) (label : List ℕ) → ℕ
convert_refusal refusal label = first_refusal (refusal ∷ judge_label (length label) ∷ judge_octets label ∷ [])

-- the answer, and the caller's buffer after it, which begins with the sample file
abbrev pub ConvertedTo : (refusal : ℕ) (label : List ℕ) (k size : ℕ) → List Arrival → (out : List ℕ) → WriteAnswer → (out' : List ℕ)
    → Type 0
ConvertedTo refusal label k size l out answer out' =
    Output (convert_refusal refusal label) (file_of (labelled_sample label k size l)) out answer out'
