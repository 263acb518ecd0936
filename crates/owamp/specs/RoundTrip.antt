-- Statements that the contracts of the calls carry: a sample may have the imported arrivals, and written records read back. Assumes
-- nothing.
use Rattle.std.specs.Prelude.{ℕ, ◌≤◌, List, [], ◌∷◌, ◌≡◌, length, take}
use Rattle.octets.specs.Memory.{over}
use Rattle.rfc4737.specs.Judge.{numbers_of, times_of, refusal_of_lists}
use Rattle.rfc4737.specs.Refusals.{first_refusal}
use Rattle.sample.specs.Judge.{judge_label, judge_octets, sample_refusal}
use Rattle.sample.specs.Decode.{decode, sample_of}
use Rattle.sample.specs.declared.WriteAnswer.{WriteAnswer}
use Rattle.owamp.specs.Order.{NotBack}
use Rattle.owamp.specs.Judge.{records_refusal}
use Rattle.owamp.specs.Calls.{imported_arrivals, RecordsImportedFrom, arrivals_of_file, RecordsWrittenTo}
use Rattle.owamp.specs.declared.RecordsImport.{RecordsImport}

-- a sample may have the imported arrivals: their times are sorted, and K and the arrivals are not refused. So `sample::write` refuses
-- only the label (3 or 13) or a short buffer (8), if it is given K payload sizes and these arrivals
pub record AcceptedRecords (k : ℕ) (os : List ℕ) : Type 0 where
  pub rising : NotBack (imported_arrivals os)
  pub lists : refusal_of_lists k (numbers_of (imported_arrivals os)) (times_of (imported_arrivals os)) ≡ 0
  pub written : (label sizes : List ℕ) → length sizes ≡ k
      → sample_refusal label sizes (numbers_of (imported_arrivals os)) (times_of (imported_arrivals os))
      ≡ first_refusal (judge_label (length label) ∷ judge_octets label ∷ [])

-- this holds for all records that are not refused
abbrev pub AcceptedLists : ℕ → List ℕ → Type 0
AcceptedLists k os = records_refusal k os ≡ 0 → AcceptedRecords k os

-- a sample file is written as records, and these are imported with its K into lists that are long enough. If no time of the sample goes
-- back, the numbers are the same, in the same order. Nothing is claimed about the times: each is rounded down twice, so a microsecond may
-- be lost
abbrev pub RecordsReadAgain : List ℕ → Type 0
RecordsReadAgain file =
    (out out' numbers times numbers' times' : List ℕ) (written : WriteAnswer) (read : RecordsImport)
    → RecordsWrittenTo file out written out'
    → written.refusal ≡ 0
    → NotBack (arrivals_of_file file)
    → length (arrivals_of_file file) ≤ length numbers
    → length (arrivals_of_file file) ≤ length times
    → RecordsImportedFrom (length (sample_of (decode file)).sizes) (take written.length out') numbers times read numbers' times'
    → (read ≡ record { refusal = 0; arrivals = length (arrivals_of_file file) })
    × (numbers' ≡ over (numbers_of (arrivals_of_file file)) numbers)
