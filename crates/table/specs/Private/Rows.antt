-- The rows of some records in memory. Assumes nothing.
use Rattle.std.specs.Prelude.{ℕ, suc, ◌-◌, ◌*◌, ◌<◌, ◌≤◌, ◌≡◌, List, length}
use Rattle.sample.specs.Decode.{Decoded}
use Rattle.metrics.specs.Rows.{row_of, row_at}
use Rattle.table.specs.Text.{answer_at, block_start}

-- memory has the rows of records from + 1 to `to`, from its start
pub record RowsKnown (d : Decoded) (from to : ℕ) (rows : List ℕ) : Type 0 where
  pub room : 8 * (to - from) ≤ length rows
  pub row : (i : ℕ) → from ≤ i → i < to → row_at rows (suc (i - from)) ≡ row_of (answer_at d i)

-- memory has the rows of the records of a part
abbrev pub PartRows : Decoded → (part : ℕ) → List ℕ → Type 0
PartRows d part rows = RowsKnown d (block_start d (part - 1)) (block_start d part) rows
