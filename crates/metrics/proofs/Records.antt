-- The record of a packet's first arrival. There is none if the packet has not arrived (`record-none`), else it is one from 1 to the
-- number of arrivals (`record-some`): by induction over the arrivals, with records counted from any r. Take a list with a value for each
-- arrival, where the value of a first arrival is determined by its index among the first arrivals. That list has this value at the record
-- of the first arrival (`listed_at`), by induction over the arrivals from the end: the next arrival leaves the records of packets that
-- have arrived (`earlier`), and if it is a first arrival its own is the last (`last`). So the arrival at the record of a first arrival is
-- that first arrival (`first-at`).
-- Here l are the arrivals, a the next one, s a packet's number, p an index among the first arrivals, d and z the defaults of lists.
-- Assumes nothing.
use mathlib.Core.Path.{◌≡◌, refl, sym, ◌∙◌}
use mathlib.Core.Bool.{Bool, true, false, cond, ◌||◌, true≢false}
use mathlib.Core.List.{List, [], ◌∷◌, ◌++◌}
use Prim.Native.Nat.{ℕ, zero, suc, ◌+◌, ◌-◌, ◌≤◌, ◌<◌}
use native.Mathlib.Omega.{arith}
use lib.Dec.{eqb}
use lib.ListN.{length, get_or, length-append, get_or-append}
use lib.Seq.{get_or-append_seam}
use borrow.Author.Tests.{eq-eqb, eqb-true, eqb-false}
use Rattle.rfc4737.specs.declared.Arrival.{Arrival}
use Rattle.rfc4737.specs.Arrivals.{has, firsts, record_from, first_record}
use Rattle.rfc4737.proofs.Lists.{snoc-ind}
use Rattle.rfc4737.proofs.Arrivals.{has-firsts, firsts-duplicate, firsts-first, record-more}

-- a packet that has not arrived has no record, however records are counted
record-from-none : (r s : ℕ) (l : List Arrival) → has s l ≡ false → record_from r s l ≡ 0
unfolding record_from has
record-from-none r s [] e = refl
record-from-none r s (a ∷ l) e = go (eqb a.number s) e (record-from-none (r + 1) s l)
  where
    go : (t : Bool) → (t || has s l) ≡ false → (has s l ≡ false → record_from (r + 1) s l ≡ 0) → cond t r (record_from (r + 1) s l) ≡ 0
    go true e h = absurd (true≢false e)
    go false e h = h e

-- so it has none where they are counted from 1
pub record-none : (s : ℕ) (l : List Arrival) → has s l ≡ false → first_record s l ≡ 0
unfolding first_record
record-none s l e = record-from-none 1 s l e

-- one that has arrived has one of the records, counted from r
record-from-some : (r s : ℕ) (l : List Arrival) → has s l ≡ true → (r ≤ record_from r s l) × (record_from r s l < r + length l)
unfolding record_from has
record-from-some r s [] e = absurd (true≢false (sym e))
record-from-some r s (a ∷ l) e = go (eqb a.number s) e (record-from-some (r + 1) s l)
  where
    go : (t : Bool) → (t || has s l) ≡ true
        → (has s l ≡ true → (r + 1 ≤ record_from (r + 1) s l) × (record_from (r + 1) s l < r + 1 + length l))
        → (r ≤ cond t r (record_from (r + 1) s l)) × (cond t r (record_from (r + 1) s l) < r + suc (length l))
    go true e h = omega arith
    go false e h = let k = h e in omega arith

-- and from 1
pub record-some : (s : ℕ) (l : List Arrival) → has s l ≡ true → (1 ≤ first_record s l) × (first_record s l ≤ length l)
unfolding first_record
record-some s l e = let k = record-from-some 1 s l e in omega arith

-- it stays after the next arrival
pub record-stays : (l : List Arrival) (a : Arrival) (s : ℕ) → has s l ≡ true → first_record s (l ++ (a ∷ [])) ≡ first_record s l
record-stays l a s e = record-more s l a ∙ simp e

-- the packet of any of the arrivals has arrived
pub has-at : (d : Arrival) (l : List Arrival) (p : ℕ) → p < length l → has (get_or l p d).number l ≡ true
unfolding has
has-at d [] p h = absurd (omega arith)
has-at d (a ∷ l) zero h = simp (eq-eqb a.number a.number refl)
has-at d (a ∷ l) (suc p) h = go (eqb a.number (get_or l p d).number) (has-at d l p (omega arith))
  where
    go : (t : Bool) → has (get_or l p d).number l ≡ true → (t || has (get_or l p d).number l) ≡ true
    go true h = refl
    go false h = h

-- `listed` has for each arrival its value after the arrivals before it (`count`, `next`), and a first arrival's is told by its place
-- (`first`)
module _ {B : Type 0} (d : Arrival) (z : B) (listed : List Arrival → List B) (value : List Arrival → Arrival → B)
    (by_place : ℕ → Arrival → B)
    (count : (l : List Arrival) → length (listed l) ≡ length l)
    (next : (l : List Arrival) (a : Arrival) → listed (l ++ (a ∷ [])) ≡ listed l ++ (value l a ∷ []))
    (first : (l : List Arrival) (a : Arrival) → has a.number l ≡ false → value l a ≡ by_place (length (firsts l)) a) where
  -- this stands at the record of the first arrival at place p
  pub listed_at : (l : List Arrival) (p : ℕ) → p < length (firsts l)
      → get_or (listed l) (first_record (get_or (firsts l) p d).number l - 1) z ≡ by_place p (get_or (firsts l) p d)
  unfolding firsts
  listed_at = snoc-ind At more (λ p h. absurd (omega arith))
    where
      At : List Arrival → Type 0
      At l =
          (p : ℕ) → p < length (firsts l) → get_or (listed l) (first_record (get_or (firsts l) p d).number l - 1) z
          ≡ by_place p (get_or (firsts l) p d)

      earlier : (l : List Arrival) (a : Arrival) → At l → (p : ℕ) → p < length (firsts l)
          → get_or (listed (l ++ (a ∷ []))) (first_record (get_or (firsts l) p d).number (l ++ (a ∷ [])) - 1) z
          ≡ by_place p (get_or (firsts l) p d)
      earlier l a k p h =
          let arrived : has (get_or (firsts l) p d).number l ≡ true = sym (has-firsts _ l) ∙ has-at d (firsts l) p h in
          let r = record-some (get_or (firsts l) p d).number l arrived in
          let low : first_record (get_or (firsts l) p d).number l - 1 < length (listed l) = omega (arith, count l) in
          rw (record-stays l a (get_or (firsts l) p d).number arrived, next l a)
          (get_or-append (listed l) (value l a ∷ []) z (first_record (get_or (firsts l) p d).number l - 1) low ∙ k p h)

      last : (l : List Arrival) (a : Arrival) → has a.number l ≡ false
          → get_or (listed (l ++ (a ∷ []))) (first_record a.number (l ++ (a ∷ [])) - 1) z ≡ by_place (length (firsts l)) a
      last l a new =
          let here : first_record a.number (l ++ (a ∷ [])) ≡ length l + 1 =
          record-more a.number l a ∙ simp (new, eq-eqb a.number a.number refl) in
          let at : first_record a.number (l ++ (a ∷ [])) - 1 ≡ length (listed l) = omega (arith, count l) in
          rw (at, next l a) (get_or-append_seam (listed l) (value l a) [] z ∙ first l a new)

      new-at : (l : List Arrival) (a : Arrival) → At l → has a.number l ≡ false → (p : ℕ) → p < length (firsts l ++ (a ∷ []))
          → (t : Bool) → eqb p (length (firsts l)) ≡ t
          → get_or (listed (l ++ (a ∷ []))) (first_record (get_or (firsts l ++ (a ∷ [])) p d).number (l ++ (a ∷ [])) - 1) z
          ≡ by_place p (get_or (firsts l ++ (a ∷ [])) p d)
      new-at l a k new p h true q =
          let at : p ≡ length (firsts l) = eqb-true p (length (firsts l)) q in
          rw (at, get_or-append_seam (firsts l) a [] d) (last l a new)
      new-at l a k new p h false q =
          let other : p ≡ length (firsts l) → ⊥ = eqb-false p (length (firsts l)) q in
          let low : p < length (firsts l) = omega (arith, other, length-append (firsts l) (a ∷ [])) in
          rw (get_or-append (firsts l) (a ∷ []) d p low) (earlier l a k p low)

      go : (l : List Arrival) (a : Arrival) → At l → (t : Bool) → has a.number l ≡ t → At (l ++ (a ∷ []))
      go l a k true q p h = rw (firsts-duplicate l a q) (earlier l a k p (rw (firsts-duplicate l a q) at h))
      go l a k false q p h = rw (firsts-first l a q) (new-at l a k q p (rw (firsts-first l a q) at h) (eqb p (length (firsts l))) refl)

      more : (l : List Arrival) (a : Arrival) → At l → At (l ++ (a ∷ []))
      more l a k = go l a k (has a.number l) refl

-- in the list of the arrivals this is the arrival itself
pub first-at : (d : Arrival) (l : List Arrival) (p : ℕ) → p < length (firsts l)
    → get_or l (first_record (get_or (firsts l) p d).number l - 1) d ≡ get_or (firsts l) p d
first-at d = listed_at d d (λ l. l) (λ l a. a) (λ p a. a) (λ l. refl) (λ l a. refl) (λ l a new. refl)
