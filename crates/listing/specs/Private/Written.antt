-- The buffer after a part of a line was written. Assumes nothing.
use Rattle.std.specs.Prelude.{ℕ, ◌+◌, ◌≤◌, ◌/◌, ◌%◌, ◌≡◌, List, [], ◌∷◌, ◌++◌, length}
use Rattle.octets.specs.Memory.{splice}

-- `new` is `old` with the octets xs, at most `most` of them, written from offset `at` on; `next` is the offset after them
pub record PartWritten (at most next : ℕ) (xs old new : List ℕ) : Type 0 where
  pub place : next ≡ at + length xs
  pub within : length xs ≤ most
  pub memory : new ≡ splice at xs old

-- two digits of a number below 100
abbrev pub pair : ℕ → List ℕ
pair v = (48 + v / 10) ∷ (48 + v % 10) ∷ []

-- four digits of a number below 10,000
abbrev pub four : ℕ → List ℕ
four v = pair (v / 100) ++ pair (v % 100)
