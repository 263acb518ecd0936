-- The invariant of the search; no public contract reaches these definitions. Assumes nothing.
use Rattle.std.specs.Prelude.{◌≡◌, true, false, ℕ, ◌*◌, ◌≤◌, ◌<◌, leb, get_or, List}
use Rattle.rfc4737.specs.declared.Answer.{Answer}
use Rattle.rfc4737.specs.declared.Measure.{Measure}
use Rattle.metrics.specs.Figures.{step_count}
use Rattle.buffering.specs.Least.{Enough}
use Rattle.buffering.specs.declared.Bounds.{Bounds}

-- all sizes below the low one are too small, and the high one is enough
pub record Between (m : Measure) (part whole : ℕ) (l : List Answer) (b : Bounds) : Type 0 where
  pub order : b.low ≤ b.high
  pub enough : Enough m part whole l b.high
  pub small : (size : ℕ) → size < b.low → Enough m part whole l size → ⊥

-- r is the index of the first count that is a share of at least `part` in `whole` of `all`, and the number of the counts if none is
pub record FirstEnough (part whole all : ℕ) (counts : List ℕ) (r : ℕ) : Type 0 where
  pub within : r ≤ step_count
  pub before : (j : ℕ) → j < r → leb (part * all) (whole * get_or counts j 0) ≡ false
  pub found : r < step_count → leb (part * all) (whole * get_or counts r 0) ≡ true
