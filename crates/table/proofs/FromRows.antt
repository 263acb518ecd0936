-- The records of a table, one after the other (`records-next`), each written from its row (`record-written`). i is the index of a record
-- from 0, old and new are memory before and after. Assumes nothing.
use Prim.Native.Nat.{ℕ, suc, ◌+◌, ◌-◌, ◌*◌, ◌≤◌, ◌<◌}
use native.Mathlib.Omega.{arith}
use mathlib.Core.Path.{◌≡◌, ap, ◌∙◌}
use mathlib.Core.Bool.{Bool}
use mathlib.Core.List.{List, ◌++◌}
use lib.ListN.{length}
use Rattle.octets.specs.Memory.{part}
use Rattle.octets.proofs.Memory.{taken, part_length}
use Rattle.rfc4737.specs.declared.Arrival.{Arrival}
use Rattle.rfc4737.specs.declared.Answer.{Answer}
use Rattle.sample.specs.Decode.{Decoded}
use Rattle.metrics.specs.Rows.{row_of, row_at}
use Rattle.metrics.specs.Records.{arrival_at}
use Rattle.table.specs.Text.{row_text, answer_at, record_text, records_from}
use Rattle.table.specs.Private.Rows.{RowsKnown}

-- the next record
pub records-next : (json : Bool) (d : Decoded) (from i : ℕ) → from ≤ i
    → records_from json d from (i - from) ++ record_text json d i ≡ records_from json d from (i + 1 - from)
records-next json d from i h =
    let e : i + 1 - from ≡ suc (i - from) = omega arith in
    let f : from + (i - from) ≡ i = omega arith in
    rw (e, f)

-- row i + 1, taken from memory
pub row-taken : (rows : List ℕ) (i : ℕ) → taken (8 * i) 8 rows ≡ row_at rows (suc i)
unfolding row_at
row-taken rows i =
    let e : 8 * i + 8 - 8 * i ≡ 8 = omega arith in
    let f : 8 * i ≡ 8 * (suc i - 1) = omega arith in
    rw (e, f)

pub row-length : (rows : List ℕ) (i : ℕ) → 8 * i + 8 ≤ length rows → length (taken (8 * i) 8 rows) ≡ 8
row-length rows i h =
    let e : 8 * i + 8 - 8 * i ≡ 8 = omega arith in
    ap (λ (n : ℕ). length (part (8 * i) n rows)) e ∙ part_length (8 * i) 8 rows h

-- record i + 1, written from its row
pub record-written : (json : Bool) (d : Decoded) (from to : ℕ) (rows : List ℕ) (i : ℕ) {a : Arrival} {line : List ℕ}
    → RowsKnown d from to rows → from ≤ i → i < to → a ≡ arrival_at d i
    → ((x : Answer) → taken (8 * (i - from)) 8 rows ≡ row_of x → line ≡ row_text json i a x)
    → line ≡ record_text json d i
record-written json d from to rows i k low high e w =
    w (answer_at d i) (row-taken rows (i - from) ∙ k.row i low high) ∙ ap (λ (a : Arrival). row_text json i a (answer_at d i)) e
