-- Every figure of every record, in rows of eight numbers, and what the call that fills them answers. Assumes nothing.
use Rattle.std.specs.Prelude.{◌≡◌, Bool, List, [], ◌∷◌, ◌++◌, ℕ, ◌-◌, ◌*◌, ◌/◌, ltb, length, take, drop}
use Rattle.octets.specs.Memory.{part, over}
use Rattle.rfc4737.specs.declared.Answer.{Answer}
use Rattle.rfc4737.specs.Numbering.{in_order_number, reordered_number, duplicate_number, amount_of}
use Rattle.sample.specs.declared.Layout.{Layout}
use Rattle.sample.specs.Decode.{Decoded, layout_of}
use Rattle.sample.specs.Calls.{unless_short}
use Rattle.metrics.specs.Sample.{sample_arrivals, answers_of}
use Rattle.metrics.specs.Figures.{record_answer}

-- the row of a record: the number of its answer's case (0 in order, 1 reordered after, 2 reordered before, 3 a duplicate), position, jump
-- size, extent, amount of the late time, byte offset, largest n, and the record of the first copy; figures that a record lacks are 0
unfoldable pub row_of : Answer → List ℕ
row_of (Answer.InOrder d) = in_order_number ∷ d.position ∷ d.jump ∷ 0 ∷ 0 ∷ 0 ∷ 0 ∷ 0 ∷ []
row_of (Answer.Reordered d) =
    reordered_number d.late ∷ d.position ∷ 0 ∷ d.extent ∷ amount_of d.late ∷ d.offset ∷ d.largest ∷ 0 ∷ []
row_of (Answer.Duplicate d) = duplicate_number ∷ 0 ∷ 0 ∷ 0 ∷ 0 ∷ 0 ∷ 0 ∷ d.first ∷ []

-- the rows of some records, one after the other
unfoldable pub rows_of : List Answer → List ℕ
rows_of [] = []
rows_of (a ∷ l) = row_of a ++ rows_of l

-- whether a list has places for fewer rows than there are arrivals
unfoldable pub rows_short : (arrivals places : ℕ) → Bool
rows_short arrivals places = ltb (places / 8) arrivals

-- ---- the calls

-- a decoded file where a list of this many places is lent
abbrev pub rows_into : Decoded → (places : ℕ) → Decoded
rows_into d places = unless_short (rows_short (length (sample_arrivals d)) places) d

-- the answer of the call for all records, and the lent list after it: it has the rows of all records from its start, all else as it was
pub record RowsTo (d : Decoded) (old : List ℕ) (answer : Layout) (new : List ℕ) : Type 0 where
  pub layout : answer ≡ layout_of (rows_into d (length old))
  pub rows : new ≡ over (rows_of (answers_of (rows_into d (length old)))) old

-- the rows that a list of this many places has room for, from record from + 1 on
unfoldable pub rows_from : Decoded → (from places : ℕ) → List ℕ
rows_from d from places = rows_of (part from (places / 8) (answers_of d))

-- the answer of the call that starts at a record, and the lent list after it
pub record RowsFromTo (d : Decoded) (from : ℕ) (old : List ℕ) (answer : Layout) (new : List ℕ) : Type 0 where
  pub layout : answer ≡ layout_of d
  pub rows : new ≡ over (rows_from d from (length old)) old

-- the row at a record, counted from 1
unfoldable pub row_at : List ℕ → ℕ → List ℕ
row_at rows asked = take 8 (drop (8 * (asked - 1)) rows)

-- a row tells its whole answer: no two answers have the same row. And at every record for which `answer` is not refused stands the row of
-- what that call returns
pub record RowsTell : Type 0 where
  pub tell : (a b : Answer) → row_of a ≡ row_of b → a ≡ b
  pub at : (d : Decoded) (asked : ℕ) → (record_answer d asked).refusal ≡ 0
      → row_at (rows_of (answers_of d)) asked ≡ row_of (record_answer d asked).answer
