-- What the calls return, and what the caller's lists and octets hold after them. Assumes nothing.
use Rattle.std.specs.Prelude.{ℕ, Bool, ◌||◌, Result, Ok, Err, List, [], ◌∷◌, ◌≡◌, ltb, length}
use Rattle.octets.specs.Memory.{over}
use Rattle.rfc4737.specs.Judge.{numbers_of, times_of, arrivals_from, refusal_of_lists}
use Rattle.std.specs.Option.{unwrap_or}
use Rattle.rfc4737.specs.declared.refusal.Refusal.{Refusal}
use Rattle.rfc4737.specs.Refused.{number_of}
use Rattle.rfc4737.specs.Refusals.{refusal_if, first_refusal, output_short, line_malformed}
use Rattle.sample.specs.Output.{if_none, Output}
use Rattle.sample.specs.declared.WriteAnswer.{WriteAnswer}
use Rattle.textlog.specs.Form.{log_of}
use Rattle.textlog.specs.Decode.{DecodedLine, malformed, arrived, decoded_lines, arrivals_of_lines, judge_decoded}
use Rattle.textlog.specs.declared.LogJudgement.{LogJudgement}
use Rattle.textlog.specs.declared.LogImport.{LogImport}
use Rattle.textlog.specs.declared.LogRefusal.{LogRefusal}
use Rattle.textlog.specs.declared.LogLine.{LogLine}

-- ---- the importer

-- the judgement in a result: the number of arrivals, or the refusal and the refused line, 0 if no line is to blame
abbrev pub judgement_in : Result ℕ LogRefusal → LogJudgement
judgement_in (Ok arrivals) = record { refusal = 0; arrivals = arrivals; line = 0 }
judgement_in (Err refused) = record { refusal = number_of refused.refusal; arrivals = 0; line = unwrap_or refused.line 0 }

-- the answer in a result: the number of arrivals, or the refusal
abbrev pub import_in : Result ℕ Refusal → LogImport
import_in (Ok arrivals) = record { refusal = 0; arrivals = arrivals }
import_in (Err refusal) = record { refusal = number_of refusal; arrivals = 0 }

-- whether one of two lists, of the lengths `numbers` and `times`, is too short for `arrivals`
unfoldable pub log_lists_short : (arrivals numbers times : ℕ) → Bool
log_lists_short arrivals numbers times = ltb numbers arrivals || ltb times arrivals

-- the refusal of an import of decoded lines into lists of these lengths: that of the lines, then 8
unfoldable pub import_refusal : (k numbers times : ℕ) (ds : List DecodedLine) → ℕ
import_refusal k numbers times ds =
    first_refusal ((judge_decoded k ds).refusal ∷ refusal_if (log_lists_short (length (arrivals_of_lines ds)) numbers times) output_short ∷ [])

-- the result of an import of decoded lines, and the two lists after it: the arrivals' values from their start, all else as it was
pub record LinesImported (k : ℕ) (ds : List DecodedLine) (numbers times : List ℕ) (answer : LogImport)
    (numbers' times' : List ℕ) : Type 0 where
  pub refusal : answer.refusal ≡ import_refusal k (length numbers) (length times) ds
  pub arrivals : answer.arrivals ≡ if_none answer.refusal (length (arrivals_of_lines ds)) 0
  pub filled_numbers : numbers' ≡ if_none answer.refusal (over (numbers_of (arrivals_of_lines ds)) numbers) numbers
  pub filled_times : times' ≡ if_none answer.refusal (over (times_of (arrivals_of_lines ds)) times) times

-- the result of an import of a log, and the two lists after it
abbrev pub LogImportedFrom : (k : ℕ) (log numbers times : List ℕ) → LogImport → (numbers' times' : List ℕ) → Type 0
LogImportedFrom k log = LinesImported k (decoded_lines log)

-- ---- one line

-- the result for a line by itself: the arrival that it decodes to, or 14
abbrev pub log_line : DecodedLine → LogLine
log_line malformed = record { refusal = line_malformed; number = 0; time = 0 }
log_line (arrived a) = record { refusal = 0; number = a.number; time = a.time }

-- ---- the writer

-- the writer's answer, and the caller's buffer after it, which begins with the log
abbrev pub LogWrittenTo : (k : ℕ) (numbers times out : List ℕ) → WriteAnswer → List ℕ → Type 0
LogWrittenTo k numbers times out answer out' = Output (refusal_of_lists k numbers times) (log_of (arrivals_from numbers times)) out answer out'
