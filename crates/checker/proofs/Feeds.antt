-- The line feeds of a text l: a test of each octet counts them, and there are at most as many as octets. Assumes nothing.
use Prim.Native.Nat.{ℕ, ◌+◌, ◌≤◌}
use mathlib.Core.Path.{◌≡◌, refl}
use mathlib.Core.Bool.{Bool, true, false, cond}
use mathlib.Core.List.{List}
use native.Mathlib.Omega.{arith}
use lib.Dec.{eqb}
use lib.ListN.{take, length-take}
use Rattle.std.specs.Prelude.{count_by}
use Rattle.std.proofs.lemmas.List.Sums.{count_by-le-length}
use Rattle.std.proofs.lemmas.List.Recursion.{is_count_by}
use Rattle.octets.specs.Text.{line_feed}
use Rattle.checker.specs.Private.{feeds}

pub feeds-counted : (l : List ℕ) → feeds l ≡ count_by (λ x. eqb x line_feed) l
unfolding feeds
feeds-counted = is_count_by feeds (λ x. eqb x line_feed) refl (λ x l. next (eqb x line_feed) (feeds l))
  where
    next : (b : Bool) (n : ℕ) → cond b (n + 1) n ≡ cond b (1 + n) n
    next true n = omega arith
    next false n = refl

-- those of the first n octets
pub feeds-take-le : (n : ℕ) (l : List ℕ) → feeds (take n l) ≤ n
feeds-take-le n l =
    omega (arith, feeds-counted (take n l), count_by-le-length (λ x. eqb x line_feed) (take n l), length-take n l)
