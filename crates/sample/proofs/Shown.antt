-- Spaces can all be shown, by induction on their number. Assumes nothing.
use Prim.Native.Nat.{ℕ, zero, suc}
use mathlib.Core.Bool.{false}
use mathlib.Core.Path.{◌≡◌, refl}
use lib.ListN.{replicate}
use Rattle.rfc4737.specs.Refusals.{outside}
use Rattle.sample.specs.Format.{shown_least}
use Rattle.sample.specs.Judge.{some_unshown}

-- each can be shown
pub spaces-shown : (n : ℕ) → some_unshown (replicate n shown_least) ≡ false
unfolding some_unshown outside
spaces-shown zero = refl
spaces-shown (suc n) = spaces-shown n
