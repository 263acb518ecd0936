-- Reading and writing a number undo each other, stated once over the width; `put_number`'s contract carries it. Assumes nothing.
use Rattle.std.specs.Prelude.{ℕ, ◌+◌, ◌^◌, ◌≤◌, ◌<◌, min, List, [], ◌∷◌, map, ◌≡◌, length}
use Rattle.octets.specs.Below.{Octets}
use Rattle.octets.specs.BigEndian.{be_value, be_octets}
use Rattle.octets.specs.Memory.{part, put}

-- numbers, each with the octets that it is written as
abbrev pub octet_cases : List (ℕ × List ℕ)
octet_cases =
    -- the first octet is the most significant
    (66051, 1 ∷ 2 ∷ 3 ∷ [])
    -- zeros come first
    ∷ (258, 0 ∷ 0 ∷ 1 ∷ 2 ∷ [])
    -- what the width cannot hold is cut off at the front
    ∷ (66051, 2 ∷ 3 ∷ [])
    ∷ []

-- what is written is read as it was, and what is read is written as it was
pub record ReadBack : Type 0 where
  -- a number that `width` octets can hold is read from them as itself
  pub number : (width v : ℕ) → v < 256 ^ width → be_value (be_octets width v) ≡ v
  -- octets that are read and written again are the same octets
  pub octets : (os : List ℕ) → Octets os → be_octets (length os) (be_value os) ≡ os
  -- so a number of at most 8 octets, put where there is room for them, is read at its offset as itself
  pub in_place : (at width v : ℕ) (old : List ℕ) → width ≤ 8 → v < 256 ^ width → at + width ≤ length old
      → be_value (part at (min width 8) (put at (be_octets (min width 8) v) old)) ≡ v
  -- each number of the table is written as its octets
  pub cases : map (λ (c : ℕ × List ℕ). be_octets (length c.1) c.0) octet_cases ≡ map (λ (c : ℕ × List ℕ). c.1) octet_cases
