-- Memory after a text was copied to it if there was room. Assumes nothing.
use Rattle.std.specs.Prelude.{ℕ, ◌+◌, ◌≤◌, ◌≡◌, List, length}
use Rattle.octets.specs.Memory.{splice}

-- the octets xs replace those of `old` from offset `at` on in `new`, if there is room for them; `next` is the offset after them
pub record Put (at next : ℕ) (xs old new : List ℕ) : Type 0 where
  pub place : next ≡ at + length xs
  pub same : length new ≡ length old
  pub memory : at + length xs ≤ length old → new ≡ splice at xs old
