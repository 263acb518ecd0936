-- The words and numbers that private functions write one after the other. Joined, they are the texts of Text.antt (proofs/Pieces). Assumes
-- nothing.
use Rattle.std.specs.Prelude.{ℕ, ◌+◌, Bool, cond, List, [], ◌∷◌, ◌++◌, eqb}
use Prim.Native.String as text
use Rattle.octets.specs.Text.{ascii}
use Rattle.decimal.specs.Decimal.{decimal_of}
use Rattle.rfc4737.specs.declared.Answer.{Answer}
use Rattle.rfc4737.specs.declared.Arrival.{Arrival}
use Rattle.rfc4737.specs.declared.Counts.{Counts}
use Rattle.rfc4737.specs.declared.LateTime.{LateTime}
use Rattle.rfc4737.specs.declared.Runs.{Runs}
use Rattle.listing.specs.Lines.{late_time}

-- a word in JSON, another in CSV
abbrev pub either : Bool → text.String → text.String → List ℕ
either json named plain = cond json (ascii named) (ascii plain)

-- such a word and a number
abbrev pub value : Bool → text.String → text.String → ℕ → List ℕ
value json named plain n = either json named plain ++ decimal_of n

-- the text before the number of record i + 1
unfoldable pub opening : Bool → ℕ → List ℕ
opening json i = cond (eqb i 0) (either json "{\"record\":" "") (either json ",\n{\"record\":" "")

-- the record, its sequence number and its arrival time
unfoldable pub start_pieces : Bool → ℕ → Arrival → List (List ℕ)
start_pieces json i a =
    opening json i ∷ decimal_of (i + 1) ∷ value json ",\"number\":" "," a.number ∷ value json ",\"time_us\":" "," a.time ∷ []

-- an in-order packet: its position and its jump size
unfoldable pub in_order_pieces : Bool → ℕ → ℕ → List (List ℕ)
in_order_pieces json position jump =
    value json ",\"kind\":\"in_order\",\"position\":" ",in_order," position
    ∷ value json ",\"jump_size\":" "," jump
    ∷ either json "}" ",,,,,,,,,,,,,\n"
    ∷ []

-- a reordered packet: its position, extent and late time
unfoldable pub lateness_pieces : Bool → ℕ → ℕ → LateTime → List (List ℕ)
lateness_pieces json position extent late =
    value json ",\"kind\":\"reordered\",\"position\":" ",reordered," position
    ∷ value json ",\"extent\":" ",," extent
    ∷ either json ",\"late_us\":" ","
    ∷ late_time late
    ∷ []

-- its byte offset and largest n
unfoldable pub offset_pieces : Bool → ℕ → ℕ → List (List ℕ)
offset_pieces json offset largest =
    value json ",\"byte_offset\":" "," offset ∷ value json ",\"largest_n\":" "," largest ∷ either json "}" ",,,,,,,,,\n" ∷ []

-- a duplicate: the record of the first copy
unfoldable pub duplicate_pieces : Bool → ℕ → List (List ℕ)
duplicate_pieces json first = value json ",\"kind\":\"copy\",\"first_copy\":" ",copy,,,,,,," first ∷ either json "}" ",,,,,,,,\n" ∷ []

-- the answer for a record
unfoldable pub answer_pieces : Bool → Answer → List (List ℕ)
answer_pieces json (Answer.InOrder f) = in_order_pieces json f.position f.jump
answer_pieces json (Answer.Reordered f) =
    lateness_pieces json f.position f.extent f.late ++ offset_pieces json f.offset f.largest
answer_pieces json (Answer.Duplicate f) = duplicate_pieces json f.first

-- K and A
unfoldable pub sent_pieces : Bool → (sent arrivals : ℕ) → List (List ℕ)
sent_pieces json sent arrivals =
    value json "\n],\"counts\":{\"sent\":" ",,,counts,,,,,,,," sent ∷ value json ",\"arrivals\":" "," arrivals ∷ []

-- L, the reordered packets and the copies
unfoldable pub count_pieces : Bool → Counts → List (List ℕ)
count_pieces json c =
    value json ",\"arrived\":" "," c.arrived
    ∷ value json ",\"reordered\":" "," c.reordered
    ∷ value json ",\"copies\":" "," c.duplicates
    ∷ []

-- the runs, and the end of the text
unfoldable pub run_pieces : Bool → Runs → List (List ℕ)
run_pieces json r =
    value json ",\"closed_runs\":" "," r.closed
    ∷ value json ",\"sum_of_squares\":" "," r.squares
    ∷ value json ",\"open_run\":" "," r.current
    ∷ either json "}}\n" "\n"
    ∷ []
