-- Big-endian numbers: the value of a list of octets, and a number as a list of `width` octets. Assumes nothing.
use Rattle.std.specs.Prelude.{ℕ, zero, suc, ◌+◌, ◌*◌, ◌/◌, ◌%◌}
use mathlib.Core.List.{List, [], ◌∷◌, ◌++◌, foldl}

-- the value of octets, the first of them the most significant
unfoldable pub be_value : List ℕ → ℕ
be_value os = foldl (λ (v o : ℕ). v * 256 + o) 0 os

-- v as `width` octets, the first of them the most significant; what they cannot hold is cut off at the front
unfoldable pub be_octets : (width v : ℕ) → List ℕ
be_octets zero v = []
be_octets (suc w) v = be_octets w (v / 256) ++ (v % 256 ∷ [])
