-- What the calls return, and what the caller's lists and octets hold after them. Assumes nothing.
use Rattle.std.specs.Prelude.{ℕ, ◌-◌, ◌||◌, List, [], ◌∷◌, ◌++◌, ◌≡◌, ltb, length, Result, Ok, Err}
use Rattle.octets.specs.Memory.{over}
use Rattle.rfc4737.specs.declared.Arrival.{Arrival}
use Rattle.rfc4737.specs.Judge.{numbers_of, times_of}
use Rattle.rfc4737.specs.declared.refusal.Refusal.{Refusal}
use Rattle.rfc4737.specs.Refused.{number_of}
use Rattle.rfc4737.specs.Refusals.{refusal_if, first_refusal, output_short}
use Rattle.sample.specs.Format.{item_octets}
use Rattle.sample.specs.Decode.{decode, sample_of, decoded_refusal}
use Rattle.sample.specs.Output.{if_none, Output}
use Rattle.sample.specs.declared.WriteAnswer.{WriteAnswer}
use Rattle.owamp.specs.Record.{sequence_number, send_error, receive_error, send_time, receive_seconds, receive_fraction, ttl, field_octets, records_arrivals}
use Rattle.owamp.specs.Order.{in_time_order}
use Rattle.owamp.specs.Clock.{from_smallest, written_seconds, written_fraction}
use Rattle.owamp.specs.Judge.{records_refusal, judge_seconds}
use Rattle.owamp.specs.declared.RecordsImport.{RecordsImport}

-- ---- the importer

-- the arrivals of records, in time order, in whole microseconds since the smallest time
unfoldable pub imported_arrivals : List ℕ → List Arrival
imported_arrivals os = from_smallest (in_time_order (records_arrivals os))

-- the first refusal that applies, for lists of lengths `numbers` and `times`; 8 comes last
unfoldable pub import_refusal : (k numbers times : ℕ) (os : List ℕ) → ℕ
import_refusal k numbers times os =
    first_refusal
    (records_refusal k os
    ∷ refusal_if (ltb numbers (length (records_arrivals os)) || ltb times (length (records_arrivals os))) output_short
    ∷ [])

-- the importer's answer by its result: the number of arrivals, or the refusal
abbrev pub import_in : Result ℕ Refusal → RecordsImport
import_in (Ok arrivals) = record { refusal = 0; arrivals = arrivals }
import_in (Err refusal) = record { refusal = number_of refusal; arrivals = 0 }

-- the importer's answer, and the two lists after it, which begin with the arrivals; the rest is unchanged. If the import is refused, there
-- are 0 arrivals and both lists are unchanged
pub record RecordsImportedFrom (k : ℕ) (os numbers times : List ℕ) (answer : RecordsImport) (numbers' times' : List ℕ) : Type 0 where
  pub refusal : answer.refusal ≡ import_refusal k (length numbers) (length times) os
  pub arrivals : answer.arrivals ≡ if_none answer.refusal (length (imported_arrivals os)) 0
  pub filled_numbers : numbers' ≡ if_none answer.refusal (over (numbers_of (imported_arrivals os)) numbers) numbers
  pub filled_times : times' ≡ if_none answer.refusal (over (times_of (imported_arrivals os)) times) times

-- ---- the writer

-- the record of an arrival: send time 0, both error estimates 1, the last octet 255
unfoldable pub record_octets : Arrival → List ℕ
record_octets a =
    field_octets sequence_number (a.number - 1)
    ++ (field_octets send_error 1
    ++ (field_octets receive_error 1
    ++ (field_octets send_time 0
    ++ (field_octets receive_seconds (written_seconds a.time)
    ++ (field_octets receive_fraction (written_fraction a.time)
    ++ field_octets ttl 255)))))

-- the records of arrivals
unfoldable pub records_of : List Arrival → List ℕ
records_of l = item_octets record_octets l

-- the arrivals of a sample file; none if it is refused
abbrev pub arrivals_of_file : List ℕ → List Arrival
arrivals_of_file file = (sample_of (decode file)).arrivals

-- the first refusal that applies to a sample file: its own, then 18
unfoldable pub export_refusal : List ℕ → ℕ
export_refusal file = first_refusal (decoded_refusal (decode file) ∷ judge_seconds (arrivals_of_file file) ∷ [])

-- the writer's answer, and the caller's buffer after it, which begins with the records
abbrev pub RecordsWrittenTo : (file out : List ℕ) → WriteAnswer → List ℕ → Type 0
RecordsWrittenTo file out answer out' = Output (export_refusal file) (records_of (arrivals_of_file file)) out answer out'
