-- Every record of a sample with named fields, as ASCII octets: as CSV (RFC 4180, its lines ended by a line feed) or as JSON (RFC 8259).
-- No value contains a comma, a quote or a line feed, so none is quoted in CSV. Assumes nothing.
use Rattle.std.specs.Prelude.{ℕ, zero, suc, ◌+◌, ◌-◌, ◌*◌, min, ◌≡◌, Bool, true, false, cond, List, [], ◌∷◌, ◌++◌, map, eqb, leb, length, get_or}
use Prim.Native.String as text
use Rattle.octets.specs.Text.{ascii}
use Rattle.decimal.specs.Decimal.{decimal_of}
use Rattle.rfc4737.specs.declared.Answer.{Answer}
use Rattle.rfc4737.specs.declared.Arrival.{Arrival}
use Rattle.rfc4737.specs.declared.Counts.{Counts}
use Rattle.rfc4737.specs.Runs.{counts}
use Rattle.listing.specs.Lines.{late_time}
use Rattle.sample.specs.declared.WriteAnswer.{WriteAnswer}
use Rattle.sample.specs.Output.{Output}
use Rattle.sample.specs.Decode.{Decoded, sample_of, decoded_refusal}
use Rattle.metrics.specs.Sample.{sample_arrivals, answers_of}
use Rattle.metrics.specs.Figures.{record_answer}
use Rattle.summary.specs.Json.{label_member}
use Rattle.table.specs.Fields.{Value, none, word, number, late, record_names, record_values, count_names, count_values, no_values, counts_kind}

-- ---- rows

-- texts with commas between them, and the text after the last
abbrev pub parted : List (List ℕ) → List ℕ → List ℕ
parted [] after = after
parted (t ∷ []) after = t ++ after
parted (t ∷ (u ∷ ts)) after = t ++ (ascii "," ++ parted (u ∷ ts) after)

-- a value in CSV; nothing if there is none
abbrev pub csv_value : Value → List ℕ
csv_value none = []
csv_value (word w) = ascii w
csv_value (number n) = decimal_of n
csv_value (late t) = late_time t

-- a line of CSV
abbrev pub csv_line : List Value → List ℕ
csv_line values = parted (map csv_value values) (ascii "\n")

-- a value as a member of a JSON object; no member if there is none
abbrev pub member : text.String → Value → List (List ℕ)
member name none = []
member name (word w) = (ascii "\"" ++ (ascii name ++ (ascii "\":\"" ++ (ascii w ++ ascii "\"")))) ∷ []
member name (number n) = (ascii "\"" ++ (ascii name ++ (ascii "\":" ++ decimal_of n))) ∷ []
member name (late t) = (ascii "\"" ++ (ascii name ++ (ascii "\":" ++ late_time t))) ∷ []

-- the members of these names and values
abbrev pub members : List text.String → List Value → List (List ℕ)
members [] values = []
members (name ∷ names) [] = []
members (name ∷ names) (v ∷ values) = member name v ++ members names values

-- a JSON object, and the text after it
abbrev pub object_then : List ℕ → List text.String → List Value → List ℕ
object_then after names values = ascii "{" ++ parted (members names values) (ascii "}" ++ after)

-- ---- the text: JSON if the first argument is true, else CSV

-- the text before the records: the label in JSON, the names of the fields in CSV
unfoldable pub start_text : Bool → List ℕ → List ℕ
start_text true label = label_member label ++ ascii ",\"records\":[\n"
start_text false label = parted (map ascii (record_names ++ count_names)) (ascii "\n")

-- record i + 1. JSON has a comma between two records; in CSV the fields of the counts are empty
unfoldable pub row_text : Bool → ℕ → Arrival → Answer → List ℕ
row_text true i a answer = cond (eqb i 0) [] (ascii ",\n") ++ object_then [] record_names (record_values i a answer)
row_text false i a answer = csv_line (record_values i a answer ++ no_values count_names)

-- the text after the records: the counts, as a member in JSON and as the last row in CSV
unfoldable pub end_text : Bool → (sent arrivals : ℕ) → Counts → List ℕ
end_text true sent arrivals c = ascii "\n],\"counts\":" ++ object_then (ascii "}\n") count_names (count_values sent arrivals c)
end_text false sent arrivals c = csv_line (counts_kind ++ count_values sent arrivals c)

-- the arrival of record i + 1, and the answer for it
abbrev pub arrival_at : Decoded → ℕ → Arrival
arrival_at d i = get_or (sample_arrivals d) i (record { number = 0; time = 0 })

abbrev pub answer_at : Decoded → ℕ → Answer
answer_at d i = (record_answer d (suc i)).answer

-- the text of record i + 1
abbrev pub record_text : Bool → Decoded → ℕ → List ℕ
record_text json d i = row_text json i (arrival_at d i) (answer_at d i)

-- n records, from record from + 1 on
abbrev pub records_from : Bool → Decoded → (from n : ℕ) → List ℕ
records_from json d from zero = []
records_from json d from (suc n) = records_from json d from n ++ record_text json d (from + n)

-- the start and the end of the text of a sample
abbrev pub start_of : Bool → Decoded → List ℕ
start_of json d = start_text json (sample_of d).label

abbrev pub end_of : Bool → Decoded → List ℕ
end_of json d = end_text json (length (sample_of d).sizes) (length (sample_arrivals d)) (counts (answers_of d))

-- the whole text
unfoldable pub table_text : Bool → Decoded → List ℕ
table_text json d = (start_of json d ++ records_from json d 0 (length (sample_arrivals d))) ++ end_of json d

-- ---- its parts

-- the number of records before block b, each block of 256 records
abbrev pub block_start : Decoded → ℕ → ℕ
block_start d b = min (256 * b) (length (sample_arrivals d))

-- part 0 is the text before the records, parts 1 to 16 are the blocks, part 17 is the text after the records
unfoldable pub part_text : Bool → Decoded → ℕ → List ℕ
part_text json d part =
    cond (eqb part 0) (start_of json d)
    (cond (leb part 16) (records_from json d (block_start d (part - 1)) (block_start d part - block_start d (part - 1)))
    (cond (eqb part 17) (end_of json d) []))

-- the first n parts, one after the other
abbrev pub parts_to : Bool → Decoded → ℕ → List ℕ
parts_to json d zero = []
parts_to json d (suc n) = parts_to json d n ++ part_text json d n

-- the 18 parts of a sample are the whole text
abbrev pub PartsJoin : Bool → Decoded → Type 0
PartsJoin json d = parts_to json d 18 ≡ table_text json d

-- room for any part, in octets
abbrev pub part_octets : ℕ
part_octets = 131072

-- the call's answer, and the caller's buffer after it, which begins with the part
abbrev pub PartTo : Bool → Decoded → ℕ → List ℕ → WriteAnswer → List ℕ → Type 0
PartTo json d part old answer new = Output (decoded_refusal d) (part_text json d part) old answer new
