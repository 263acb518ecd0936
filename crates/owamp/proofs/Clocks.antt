-- The clock. Quotient and remainder of stamp * 10^6 by 2^32 are the microseconds and what rounding takes off, and the quotient rises with
-- the stamp: all by arithmetic. If no time of a list is before its first, t, the first is the smallest in microseconds, by induction on
-- the list l. Assumes nothing.
use Prim.Native.Nat.{ℕ, ◌≤◌, min}
use native.Mathlib.Omega.{arith}
use mathlib.Core.List.{List, [], ◌∷◌, foldl, map}
use mathlib.Core.Path.{◌≡◌, refl, ap, ◌∙◌}
use Rattle.rfc4737.specs.declared.Arrival.{Arrival}
use Rattle.rfc4737.specs.Judge.{times_of}
use Rattle.merging.specs.Order.{NotBelow}
use Rattle.owamp.specs.Order.{time_of, NotBack}
use Rattle.owamp.specs.Clock.{microseconds, taken_off, Distance, smallest}

-- the distance from the exact time
pub distance : (stamp : ℕ) → Distance stamp
unfolding microseconds taken_off
distance stamp = record { exact = omega arith; under = omega arith }

-- a time that is not before another is not before it in microseconds
pub micro-rising : (s t : ℕ) → s ≤ t → microseconds s ≤ microseconds t
unfolding microseconds
micro-rising s t h = omega arith

-- the smallest where none is before the first
first-smallest : (t : ℕ) (l : List Arrival) → NotBelow time_of t l
    → foldl min (microseconds t) (map microseconds (times_of l)) ≡ microseconds t
first-smallest t [] n = refl
first-smallest t (a ∷ l) n =
    let k = micro-rising t a.time n.0 in
    let e : min (microseconds t) (microseconds a.time) ≡ microseconds t = omega arith in
    ap (λ (x : ℕ). foldl min x (map microseconds (times_of l))) e ∙ first-smallest t l n.1

-- where no time goes back the smallest is the first
pub rising-smallest : (a : Arrival) (l : List Arrival) → NotBack (a ∷ l)
    → smallest (map microseconds (times_of (a ∷ l))) ≡ microseconds a.time
rising-smallest a l r = first-smallest a.time l r.0
