-- First arrivals and duplicates (RFC 4737, section 3.6). Only the first arrival of a packet is analysed; a later one is a
-- duplicate and is noted. Records are counted from 1 over all arrivals, positions from 1 over the first arrivals.
-- Assumes nothing.
use Rattle.std.specs.Prelude.{ℕ, ◌+◌, Bool, false, cond, ◌||◌, eqb}
use mathlib.Core.List.{List, [], ◌∷◌, ◌++◌, foldl}
use Rattle.rfc4737.specs.declared.Arrival.{Arrival}

-- whether the packet of number s is among the arrivals
unfoldable pub has : ℕ → List Arrival → Bool
has s [] = false
has s (a ∷ l) = eqb a.number s || has s l

-- the first arrivals fs and the next arrival a, which is one of them unless its packet is there already
unfoldable pub with_arrival : List Arrival → Arrival → List Arrival
with_arrival fs a = cond (has a.number fs) fs (fs ++ (a ∷ []))

-- the first arrivals, in order of position
unfoldable pub firsts : List Arrival → List Arrival
firsts l = foldl with_arrival [] l

-- the record of the first arrival of packet s, where records are counted from r; 0 if it has not arrived
unfoldable pub record_from : ℕ → ℕ → List Arrival → ℕ
record_from r s [] = 0
record_from r s (a ∷ l) = cond (eqb a.number s) r (record_from (r + 1) s l)

-- the record of the first arrival of packet s; 0 if it has not arrived
unfoldable pub first_record : ℕ → List Arrival → ℕ
first_record s l = record_from 1 s l

module _ {ℓ κ} {A : Type ℓ} {B : Type κ} where
  -- f applied to each element and the elements before it, where those of `before` come before all
  unfoldable pub each_after : (List A → A → B) → List A → List A → List B
  each_after f before [] = []
  each_after f before (a ∷ l) = f before a ∷ each_after f (before ++ (a ∷ [])) l

  -- f applied to each element of a list and the elements before it
  unfoldable pub each : (List A → A → B) → List A → List B
  each f l = each_after f [] l

module _ {ℓ} {A : Type ℓ} where
  -- the number of elements of a list that pass a test
  unfoldable pub count : (A → Bool) → List A → ℕ
  count p l = foldl (λ (n : ℕ) (a : A). cond (p a) (n + 1) n) 0 l
