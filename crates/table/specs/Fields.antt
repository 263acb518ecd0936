-- The named fields of a record and of the counts. A field has no value if the record has no such figure. Times are in microseconds; their
-- names end in `_us`. Assumes nothing.
use Rattle.std.specs.Prelude.{ℕ, ◌+◌, List, [], ◌∷◌, map}
use Prim.Native.String as text
use Rattle.rfc4737.specs.declared.Answer.{Answer}
use Rattle.rfc4737.specs.declared.Arrival.{Arrival}
use Rattle.rfc4737.specs.declared.Counts.{Counts}
use Rattle.rfc4737.specs.declared.LateTime.{LateTime}

-- the value of a field
pub data Value : Type 0 where
  none : Value
  word : text.String → Value
  number : ℕ → Value
  late : LateTime → Value

-- the fields of a record
abbrev pub record_names : List text.String
record_names =
    "record" ∷ "number" ∷ "time_us" ∷ "kind" ∷ "position" ∷ "jump_size" ∷ "extent" ∷ "late_us" ∷ "byte_offset" ∷ "largest_n"
    ∷ "first_copy" ∷ []

-- the values from `kind` on: the kind of answer for a record, and its figures
abbrev pub answer_values : Answer → List Value
answer_values (Answer.InOrder f) =
    word "in_order" ∷ number f.position ∷ number f.jump ∷ none ∷ none ∷ none ∷ none ∷ none ∷ []
answer_values (Answer.Reordered f) =
    word "reordered" ∷ number f.position ∷ none ∷ number f.extent ∷ late f.late ∷ number f.offset ∷ number f.largest
    ∷ none ∷ []
answer_values (Answer.Duplicate f) = word "copy" ∷ none ∷ none ∷ none ∷ none ∷ none ∷ none ∷ number f.first ∷ []

-- all values of record i + 1
abbrev pub record_values : ℕ → Arrival → Answer → List Value
record_values i a answer = number (i + 1) ∷ number a.number ∷ number a.time ∷ answer_values answer

-- the fields of the counts: K, A and L, reordered packets, copies, and the runs
abbrev pub count_names : List text.String
count_names = "sent" ∷ "arrivals" ∷ "arrived" ∷ "reordered" ∷ "copies" ∷ "closed_runs" ∷ "sum_of_squares" ∷ "open_run" ∷ []

abbrev pub count_values : (sent arrivals : ℕ) → Counts → List Value
count_values sent arrivals c =
    number sent
    ∷ number arrivals
    ∷ number c.arrived
    ∷ number c.reordered
    ∷ number c.duplicates
    ∷ number c.runs.closed
    ∷ number c.runs.squares
    ∷ number c.runs.current
    ∷ []

-- no value for any of these fields
abbrev pub no_values : List text.String → List Value
no_values names = map (λ (_ : text.String). none) names

-- in CSV the counts are the last row: the values of the record fields in that row
abbrev pub counts_kind : List Value
counts_kind = none ∷ none ∷ none ∷ word "counts" ∷ none ∷ none ∷ none ∷ none ∷ none ∷ none ∷ none ∷ []
