-- A row put among others, and how far a pass goes for some rows. Assumes nothing.
use Rattle.std.specs.Prelude.{◌≡◌, cond, List, ℕ, ◌+◌, ◌-◌, ◌*◌, ◌≤◌, ltb, length}
use Rattle.octets.specs.Memory.{part, splice}
use Rattle.rfc4737.specs.declared.Answer.{Answer}

-- a list after the row of record i + 1 was put among those from record from + 1 on; a record before these has no place there
unfoldable pub with_row : (from i : ℕ) → (row rows : List ℕ) → List ℕ
with_row from i row rows = cond (ltb i from) rows (splice (8 * (i - from)) row rows)

-- a pass over the first `end` arrivals meets the next `most` records after the first `from`, or as many as there are
pub record PassEnd (arrivals from most end : ℕ) : Type 0 where
  pub inside : end ≤ arrivals
  pub room : end ≤ from + most
  pub enough : (l : List Answer) → length l ≡ arrivals → part from (end - from) l ≡ part from most l
