-- What is noted of a packet's arrivals, while its run is gone through: those of the packets before s, and the first m of the run. Here l are
-- the arrivals. Assumes nothing.
use Prim.Native.Nat.{ℕ, ◌<◌}
use mathlib.Core.List.{List}
use mathlib.Core.Path.{◌≡◌}
use lib.ListN.{length, get_or}
use Rattle.fragments.specs.declared.Piece.{Piece}
use Rattle.fragments.specs.Private.{no_piece}
use Rattle.fragments.specs.Places.{NotedAt}

module _ (l : List Piece) where
  -- the packets before s, and the first m of the run
  pub record NotingTo (s : ℕ) (run : List ℕ) (m : ℕ) (marks wholes : List ℕ) : Type 0 where
    pub of_marks : length marks ≡ length l
    pub of_wholes : length wholes ≡ length l
    pub before : (i : ℕ) → i < length l → (get_or l i no_piece).number < s → NotedAt l marks wholes i
    pub here : (k : ℕ) → k < m → NotedAt l marks wholes (get_or run k 0)
