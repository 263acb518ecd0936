-- The statements that the calls' contracts carry. What is accepted is what has the form, imported arrivals are those of a fit
-- sample, and what is written reads back. Assumes nothing.
use Rattle.std.specs.Prelude.{ℕ, ◌≤◌, ◌<◌, ◌^◌, List, [], ◌↔◌, ◌≡◌, ltb, length, take, replicate}
use Rattle.octets.specs.Memory.{over}
use Rattle.rfc4737.specs.declared.Arrival.{Arrival}
use Rattle.rfc4737.specs.Judge.{numbers_of, times_of, refusal_of_lists}
use Rattle.rfc4737.specs.Refusals.{refusal_if, output_short}
use Rattle.sample.specs.Format.{Sample, file_of}
use Rattle.sample.specs.Judge.{FitSample}
use Rattle.sample.specs.Decode.{decode, accepted}
use Rattle.sample.specs.Calls.{WrittenTo}
use Rattle.sample.specs.declared.WriteAnswer.{WriteAnswer}
use Rattle.textlog.specs.Form.{LineFits, Log}
use Rattle.textlog.specs.Decode.{arrived, decode_line, log_arrivals, judge_log}
use Rattle.textlog.specs.Calls.{LogImportedFrom, LogWrittenTo}
use Rattle.textlog.specs.declared.LogImport.{LogImport}

-- a line decodes to an arrival exactly if it has the form, with the arrival's values, and these fit their fields
abbrev pub ExactLine : Type 0
ExactLine = (l : List ℕ) (a : Arrival) → (decode_line l ≡ arrived a) ↔ LineFits l a

-- a log is accepted, with arrivals l, exactly if it has the form of a log of l, and nothing of K and l is refused
abbrev pub ExactLog : ℕ → List ℕ → Type 0
ExactLog k log =
    (l : List Arrival)
    → (((judge_log k log).refusal ≡ 0) × (log_arrivals log ≡ l)) ↔ (Log log l × (refusal_of_lists k (numbers_of l) (times_of l) ≡ 0))

-- the sample of arrivals l with no label and K equal payload sizes
abbrev pub sample_with : (k size : ℕ) → List Arrival → Sample
sample_with k size l = record { label = []; sizes = replicate k size; arrivals = l }

-- a sample that `sample::write` refuses only with 8, and whose written file decodes to it
pub record Writable (s : Sample) : Type 0 where
  pub fit : FitSample s
  pub refusal : (out out' : List ℕ) (written : WriteAnswer)
      → WrittenTo s.label s.sizes (numbers_of s.arrivals) (times_of s.arrivals) out written out'
      → written.refusal ≡ refusal_if (ltb (length out) (length (file_of s))) output_short
  pub decodes : (out out' : List ℕ) (written : WriteAnswer)
      → WrittenTo s.label s.sizes (numbers_of s.arrivals) (times_of s.arrivals) out written out'
      → written.refusal ≡ 0 → decode (take written.length out') ≡ accepted s

-- the arrivals of an accepted log, with K payload sizes of any one size, are such a sample
abbrev pub ImportedIsFit : ℕ → List ℕ → Type 0
ImportedIsFit k log = (size : ℕ) → size < 2 ^ 16 → (judge_log k log).refusal ≡ 0 → Writable (sample_with k size (log_arrivals log))

-- arrivals that are written and imported again, into lists that are long enough, are the same arrivals
abbrev pub LogReadAgain : (k : ℕ) (numbers times : List ℕ) → Type 0
LogReadAgain k numbers times =
    (out out' numbers₀ times₀ numbers' times' : List ℕ) (written : WriteAnswer) (read : LogImport)
    → LogWrittenTo k numbers times out written out'
    → written.refusal ≡ 0
    → length numbers ≤ length numbers₀
    → length times ≤ length times₀
    → LogImportedFrom k (take written.length out') numbers₀ times₀ read numbers' times'
    → (read ≡ record { refusal = 0; arrivals = length numbers })
    × (numbers' ≡ over numbers numbers₀)
    × (times' ≡ over times times₀)
