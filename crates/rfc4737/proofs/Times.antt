-- The greatest time of some arrivals is a left fold of `next_reference`, which is at least the reference and the time (`reference-above`).
-- So no arrival is after it (`until-greatest`), by induction on the next arrival: the greatest time does not fall, and is at least the new
-- time. l are the arrivals, a is the next. Assumes nothing.
use Prim.Native.Nat.{ℕ, ◌≤◌}
use mathlib.Core.Path.{◌≡◌, refl}
use mathlib.Core.Bool.{Bool, true, false, cond}
use mathlib.Core.List.{List, [], ◌∷◌, ◌++◌}
use native.Mathlib.Omega.{arith}
use lib.Dec.{ltb}
use borrow.Author.Tests.{ltb-true, ltb-false}
use Rattle.rfc4737.specs.declared.Arrival.{Arrival}
use Rattle.rfc4737.specs.Times.{next_reference, greatest_time}
use Rattle.rfc4737.proofs.Arrivals.{fold_more}
use Rattle.rfc4737.proofs.Lists.{snoc-ind, All, all_append, all-weaken}

-- neither the reference nor the time is after the next reference
pub reference-above : (reference time : ℕ) → (reference ≤ next_reference reference time) × (time ≤ next_reference reference time)
unfolding next_reference
reference-above reference time = go (ltb reference time) refl
  where
    go : (t : Bool) → ltb reference time ≡ t → (reference ≤ cond t time reference) × (time ≤ cond t time reference)
    go true e = omega (arith, ltb-true)
    go false e = omega (arith, ltb-false)

pub greatest-more : (l : List Arrival) (a : Arrival) → greatest_time (l ++ (a ∷ [])) ≡ next_reference (greatest_time l) a.time
unfolding greatest_time
greatest-more l a = fold_more _ 0 l a

-- no arrival is after the greatest time
pub until-greatest : (l : List Arrival) → All (λ (a : Arrival). a.time ≤ greatest_time l) l
until-greatest = snoc-ind (λ (l : List Arrival). All (λ (a : Arrival). a.time ≤ greatest_time l) l) more tt
  where
    more : (l : List Arrival) (a : Arrival) → All (λ (b : Arrival). b.time ≤ greatest_time l) l
        → All (λ (b : Arrival). b.time ≤ greatest_time (l ++ (a ∷ []))) (l ++ (a ∷ []))
    more l a h =
        let k = reference-above (greatest_time l) a.time in
        rw greatest-more
        (all_append (λ (b : Arrival). b.time ≤ next_reference (greatest_time l) a.time) l (a ∷ [])
        (all-weaken (λ (b : Arrival) (w : b.time ≤ greatest_time l). omega arith) l h) (k.1, tt))
