-- The jumps among first arrivals, by induction on the next one at the end. The key is `search-agrees`: of a packet s that is not among
-- them, the earliest first arrival of a greater number is the first jump of a greater number. Beside it is carried that NextExp is at most
-- s while no jump is above s. So the next first arrival a, if it is above s, is above NextExp and a jump, and both searches find it. If it
-- is below s neither does, and NextExp stays at most s. What was found before both keep. Hence a reordered packet, which is below NextExp,
-- has a discontinuity, and it is a jump (`reordered-discontinuity`). Every jump stands at one of the positions and is below NextExp
-- (`jumps-within`), and the next one is above NextExp, so jumps rise (`jumps-rise`). Neither jumps nor discontinuities are later than the
-- first arrivals (`jumps-until`, `discontinuity-until`). Here fs are the first arrivals, p and q first arrivals with their positions, o
-- what a search found, and t the outcome of a test or a time. Assumes nothing.
use Prim.Native.Nat.{ℕ, ◌+◌, ◌-◌, ◌≤◌, ◌<◌}
use mathlib.Core.Path.{◌≡◌, refl, sym, ◌∙◌}
use mathlib.Core.Bool.{Bool, true, false, cond, not, ◌&&◌, ◌||◌, true≢false}
use mathlib.Core.List.{List, [], ◌∷◌, ◌++◌, Memᴰ, append-nil, flatten}
use mathlib.Core.Option.{Option, none, some, some-ne-none}
use native.Mathlib.Omega.{arith}
use lib.Dec.{ltb, leb, eqb}
use lib.ListN.{length, length-append}
use borrow.Author.Tests.{ltb-true, ltb-false, leb-true, leb-false, eqb-false, lt-ltb, le-ltb, le-leb, ne_eqb}
use Rattle.rfc4737.specs.declared.Arrival.{Arrival}
use Rattle.rfc4737.specs.Arrivals.{has, each, each_after}
use Rattle.rfc4737.specs.Order.{next_after, next_exp, is_in_order, jump_size, is_jump, FirstArrival, place_after, placed, jump_after, jumps}
use Rattle.rfc4737.specs.Extent.{first_above, discontinuity}
use Rattle.rfc4737.proofs.Arrivals.{has_more}
use Rattle.rfc4737.proofs.Folds.{next_more}
use Rattle.rfc4737.proofs.Lists.{snoc-ind, All, Ordered, all-weaken, all_append, all-member, ordered-more, all_left, all_right, flatten-more, each_more}

-- a packet that is not among a list with one arrival more is not among the list, and is not that of the arrival
pub has-more-false : (s : ℕ) (l : List Arrival) (a : Arrival) → has s (l ++ (a ∷ [])) ≡ false → (has s l ≡ false) × (a.number ≡ s → ⊥)
has-more-false s l a e = go (has s l) (eqb a.number s) refl refl (sym (has_more s l a) ∙ e)
  where
    go : (t u : Bool) → has s l ≡ t → eqb a.number s ≡ u → (t || u) ≡ false → (has s l ≡ false) × (a.number ≡ s → ⊥)
    go true u p q e = absurd (true≢false e)
    go false true p q e = absurd (true≢false e)
    go false false p q e = (p, eqb-false _ _ q)

pub placed-more : (fs : List Arrival) (a : Arrival) → placed (fs ++ (a ∷ [])) ≡ placed fs ++ (place_after fs a ∷ [])
unfolding placed
placed-more fs a = each_more place_after fs a

pub jumps-more : (fs : List Arrival) (a : Arrival) → jumps (fs ++ (a ∷ [])) ≡ jumps fs ++ jump_after fs a
unfolding jumps
jumps-more fs a = rw each_more (flatten-more _ _)

-- the first of two searches that finds
abbrev pub or_else : Option FirstArrival → Option FirstArrival → Option FirstArrival
or_else none r = r
or_else (some p) r = some p

-- the first above s of two lists, one after the other
pub first_above-append : (s : ℕ) (l m : List FirstArrival) → first_above s (l ++ m) ≡ or_else (first_above s l) (first_above s m)
unfolding first_above
first_above-append s [] m = refl
first_above-append s (q ∷ l) m = go (ltb s q.number) (first_above-append s l m)
  where
    go : (t : Bool)
        → first_above s (l ++ m) ≡ or_else (first_above s l) (first_above s m)
        → cond t (some q) (first_above s (l ++ m)) ≡ or_else (cond t (some q) (first_above s l)) (first_above s m)
    go true e = refl
    go false e = e

-- what a search finds is one of the list, and its number is above s
pub first_above-member : (s : ℕ) (l : List FirstArrival) (p : FirstArrival) → first_above s l ≡ some p → Memᴰ p l × (s < p.number)
unfolding first_above
first_above-member s [] p e = absurd (some-ne-none p (sym e))
first_above-member s (q ∷ l) p e = go (ltb s q.number) refl e (first_above-member s l p)
  where
    go : (t : Bool)
        → ltb s q.number ≡ t
        → cond t (some q) (first_above s l) ≡ some p
        → (first_above s l ≡ some p → Memᴰ p l × (s < p.number))
        → Memᴰ p (q ∷ l) × (s < p.number)
    go true et e h =
        let same : p ≡ q = cc in
        (Memᴰ.head same, rw same (ltb-true _ _ et))
    go false et e h = (Memᴰ.tail (h e).0, (h e).1)

-- no search finds where no number is above s
pub first_above-none : (s : ℕ) (l : List FirstArrival) → All (λ (p : FirstArrival). p.number ≤ s) l → first_above s l ≡ none
unfolding first_above
first_above-none s [] h = refl
first_above-none s (q ∷ l) h = rw (le-ltb _ _ h.0) (first_above-none s l h.1)

-- an arrival above NextExp is a jump
above-jump : (fs : List Arrival) (s : ℕ) → next_exp fs < s → is_jump fs s ≡ true
unfolding is_jump is_in_order jump_size
above-jump fs s h =
    let e : leb (next_exp fs) s ≡ true = le-leb (next_exp fs) s (omega arith) in
    let d : eqb (s - next_exp fs) 0 ≡ false = ne_eqb (s - next_exp fs) 0 (λ q. omega arith) in
    simp (e, d)

-- a jump is above NextExp
jump-above : (fs : List Arrival) (s : ℕ) → is_jump fs s ≡ true → next_exp fs < s
unfolding is_jump is_in_order jump_size
jump-above fs s h = go (leb (next_exp fs) s) (eqb (s - next_exp fs) 0) refl refl h
  where
    go : (t u : Bool) → leb (next_exp fs) s ≡ t → eqb (s - next_exp fs) 0 ≡ u → (t && not u) ≡ true → next_exp fs < s
    go true true et eu h = absurd (true≢false (sym h))
    go true false et eu h = omega (arith, leb-true, eqb-false)
    go false u et eu h = absurd (true≢false (sym h))

-- NextExp does not fall below s + 1 after a packet s, nor below what it was
pub next_after-above : (next s : ℕ) → (next ≤ next_after next s) × (s < next_after next s)
unfolding next_after
next_after-above next s = go (leb next s) refl
  where
    go : (t : Bool) → leb next s ≡ t → (next ≤ cond t (s + 1) next) × (s < cond t (s + 1) next)
    go true e = omega (arith, leb-true)
    go false e = omega (arith, leb-false)

-- NextExp is at most s after a packet below s, if it was
pub next_after-below : (next r s : ℕ) → next ≤ s → r < s → next_after next r ≤ s
unfolding next_after
next_after-below next r s h g = go (leb next r)
  where
    go : (t : Bool) → cond t (r + 1) next ≤ s
    go true = omega arith
    go false = omega arith

-- of one more first arrival above s, where NextExp was at most s: it is found, as a jump too
above_more : (s : ℕ) (fs : List Arrival) (a : Arrival) → next_exp fs ≤ s → s < a.number
    → (first_above s (place_after fs a ∷ []) ≡ some (place_after fs a)) × (first_above s (jump_after fs a) ≡ some (place_after fs a))
unfolding first_above jump_after
above_more s fs a h g =
    let j : is_jump fs a.number ≡ true = above-jump fs a.number (omega arith) in
    (simp (lt-ltb _ _ g), simp (j, lt-ltb _ _ g))

-- of one more first arrival that is not above s: it is not found
below_more : (s : ℕ) (fs : List Arrival) (a : Arrival) → a.number ≤ s → first_above s (jump_after fs a) ≡ none
unfolding jump_after
below_more s fs a h = go (is_jump fs a.number)
  where
    go : (t : Bool) → first_above s (cond t (place_after fs a ∷ []) []) ≡ none
    go true = first_above-none s (place_after fs a ∷ []) (h, tt)
    go false = first_above-none s [] tt

-- Of a packet s that has not arrived, the earliest first arrival of a greater number is the first jump of a greater number;
-- and where no jump is above s, NextExp is at most s.
pub record SearchAgrees (s : ℕ) (fs : List Arrival) : Type 0 where
  pub same : discontinuity fs s ≡ first_above s (jumps fs)
  pub next : first_above s (jumps fs) ≡ none → next_exp fs ≤ s

-- the two facts under one first arrival more
search-agrees-more : (s : ℕ) (fs : List Arrival) (a : Arrival) → SearchAgrees s fs → (a.number ≡ s → ⊥) → SearchAgrees s (fs ++ (a ∷ []))
unfolding discontinuity
search-agrees-more s fs a h other = go (first_above s (jumps fs)) refl
  where
    all : discontinuity (fs ++ (a ∷ [])) s ≡ or_else (first_above s (jumps fs)) (first_above s (place_after fs a ∷ []))
    all = rw (placed-more, first_above-append, h.same)

    jumped : first_above s (jumps (fs ++ (a ∷ []))) ≡ or_else (first_above s (jumps fs)) (first_above s (jump_after fs a))
    jumped = rw (jumps-more, first_above-append)

    one : (t : Bool) → ltb s a.number ≡ t → first_above s (jumps fs) ≡ none → SearchAgrees s (fs ++ (a ∷ []))
    one true et e =
        let k = above_more s fs a (h.next e) (ltb-true _ _ et) in
        let found : first_above s (jumps (fs ++ (a ∷ []))) ≡ some (place_after fs a) = rw (e, k.1) at jumped in
        record { same = (rw (e, k.0) at all) ∙ sym found; next = λ n. absurd (some-ne-none _ (sym found ∙ n)) }
    one false et e =
        let le : a.number ≤ s = ltb-false _ _ et in
        let lt : a.number < s = omega arith in
        let none-all : first_above s (place_after fs a ∷ []) ≡ none = first_above-none s (place_after fs a ∷ []) (le, tt) in
        record {
          same = (rw (e, none-all) at all) ∙ sym (rw (e, below_more s fs a le) at jumped);
          next = λ n. rw next_more (next_after-below _ _ _ (h.next e) lt);
        }

    go : (o : Option FirstArrival) → first_above s (jumps fs) ≡ o → SearchAgrees s (fs ++ (a ∷ []))
    go (some p) e =
        let found : first_above s (jumps (fs ++ (a ∷ []))) ≡ some p = rw e at jumped in
        record { same = (rw e at all) ∙ sym found; next = λ n. absurd (some-ne-none _ (sym found ∙ n)) }
    go none e = one (ltb s a.number) refl e

-- the key, for every list of first arrivals
pub search-agrees : (s : ℕ) → 1 ≤ s → (fs : List Arrival) → has s fs ≡ false → SearchAgrees s fs
unfolding discontinuity placed jumps first_above next_exp flatten each each_after
search-agrees s h = snoc-ind (λ (fs : List Arrival). has s fs ≡ false → SearchAgrees s fs) more (λ n. record { same = refl; next = λ e. h })
  where
    more : (fs : List Arrival) (a : Arrival) → (has s fs ≡ false → SearchAgrees s fs) → has s (fs ++ (a ∷ [])) ≡ false
        → SearchAgrees s (fs ++ (a ∷ []))
    more fs a k e = let n = has-more-false s fs a e in search-agrees-more s fs a (k n.0) n.1

-- the discontinuity of a reordered packet s, which has not arrived: it exists, is a jump, the first of a greater number
pub record DiscontinuityJump (s : ℕ) (fs : List Arrival) : Type 0 where
  pub at : FirstArrival
  pub is : discontinuity fs s ≡ some at
  pub first : first_above s (jumps fs) ≡ some at
  pub jump : Memᴰ at (jumps fs)
  pub above : s < at.number

-- every reordered packet has one
pub reordered-discontinuity : (s : ℕ) → 1 ≤ s → (fs : List Arrival) → has s fs ≡ false → is_in_order fs s ≡ false → DiscontinuityJump s fs
unfolding is_in_order
reordered-discontinuity s h fs new late = go (first_above s (jumps fs)) refl
  where
    k : SearchAgrees s fs
    k = search-agrees s h fs new

    go : (o : Option FirstArrival) → first_above s (jumps fs) ≡ o → DiscontinuityJump s fs
    go none e = let n = k.next e in let m : s < next_exp fs = leb-false _ _ late in absurd (omega arith)
    go (some p) e =
        let m = first_above-member s (jumps fs) p e in
        record { at = p; is = k.same ∙ e; first = e; jump = m.0; above = m.1 }

-- what holds of an arrival wherever it is a jump holds of the jump that it is, if it is one
all-jump_after : (P : FirstArrival → Type 0) (fs : List Arrival) (a : Arrival) → (is_jump fs a.number ≡ true → P (place_after fs a))
    → All P (jump_after fs a)
unfolding jump_after
all-jump_after P fs a h = go (is_jump fs a.number) h
  where
    go : (t : Bool) → (t ≡ true → P (place_after fs a)) → All P (cond t (place_after fs a ∷ []) [])
    go true h = (h refl, tt)
    go false h = tt

-- jumps stay ordered by R under one first arrival more, if it comes after them wherever it is a jump
ordered-jumps-more : (R : FirstArrival → FirstArrival → Type 0) (fs : List Arrival) (a : Arrival)
    → Ordered R (jumps fs)
    → (is_jump fs a.number ≡ true → All (λ (p : FirstArrival). R p (place_after fs a)) (jumps fs))
    → Ordered R (jumps (fs ++ (a ∷ [])))
unfolding jump_after
ordered-jumps-more R fs a h g = rw jumps-more (go (is_jump fs a.number) g)
  where
    go : (t : Bool)
        → (t ≡ true → All (λ (p : FirstArrival). R p (place_after fs a)) (jumps fs))
        → Ordered R (jumps fs ++ cond t (place_after fs a ∷ []) [])
    go true g = ordered-more R (jumps fs) (place_after fs a) h (g refl)
    go false g = rw append-nil h

-- a jump is one of the first arrivals, and its number is below NextExp
pub record Within (fs : List Arrival) (p : FirstArrival) : Type 0 where
  pub position-low : 1 ≤ p.position
  pub position-high : p.position ≤ length fs
  pub number-low : 1 ≤ p.number
  pub number-high : p.number < next_exp fs

pub jumps-within : (fs : List Arrival) → All (Within fs) (jumps fs)
unfolding jumps each each_after flatten
jumps-within = snoc-ind (λ (fs : List Arrival). All (Within fs) (jumps fs)) more tt
  where
    more : (fs : List Arrival) (a : Arrival) → All (Within fs) (jumps fs) → All (Within (fs ++ (a ∷ []))) (jumps (fs ++ (a ∷ [])))
    more fs a h =
        let l : length (fs ++ (a ∷ [])) ≡ length fs + 1 = length-append fs (a ∷ []) in
        let n : next_exp (fs ++ (a ∷ [])) ≡ next_after (next_exp fs) a.number = next_more fs a in
        let b = next_after-above (next_exp fs) a.number in
        rw jumps-more
        (all_append (Within (fs ++ (a ∷ []))) (jumps fs) (jump_after fs a)
        (all-weaken (λ (p : FirstArrival) (w : Within fs p). omega arith) (jumps fs) h)
        (all-jump_after (Within (fs ++ (a ∷ []))) fs a (λ j. let g = jump-above fs a.number j in omega arith)))

-- one jump before another: of a lower position and a lower number
pub record Rises (p q : FirstArrival) : Type 0 where
  pub position : p.position < q.position
  pub number : p.number < q.number

-- jumps rise in position and number
pub jumps-rise : (fs : List Arrival) → Ordered Rises (jumps fs)
unfolding jumps each each_after flatten
jumps-rise = snoc-ind (λ (fs : List Arrival). Ordered Rises (jumps fs)) more tt
  where
    more : (fs : List Arrival) (a : Arrival) → Ordered Rises (jumps fs) → Ordered Rises (jumps (fs ++ (a ∷ [])))
    more fs a h =
        ordered-jumps-more Rises fs a h
        (λ j. let g = jump-above fs a.number j in
        all-weaken (λ (p : FirstArrival) (w : Within fs p). omega arith) (jumps fs) (jumps-within fs))

-- jumps among arrivals up to a time are up to that time
pub jumps-until : (t : ℕ) (fs : List Arrival) → All (λ (a : Arrival). a.time ≤ t) fs → All (λ (p : FirstArrival). p.time ≤ t) (jumps fs)
unfolding jumps each each_after flatten
jumps-until t =
    snoc-ind (λ (fs : List Arrival). All (λ (a : Arrival). a.time ≤ t) fs → All (λ (p : FirstArrival). p.time ≤ t) (jumps fs)) more
    (λ n. tt)
  where
    more : (fs : List Arrival) (a : Arrival)
        → (All (λ (a : Arrival). a.time ≤ t) fs → All (λ (p : FirstArrival). p.time ≤ t) (jumps fs))
        → All (λ (a : Arrival). a.time ≤ t) (fs ++ (a ∷ []))
        → All (λ (p : FirstArrival). p.time ≤ t) (jumps (fs ++ (a ∷ [])))
    more fs a h g =
        let r = all_right (λ (a : Arrival). a.time ≤ t) fs (a ∷ []) g in
        rw jumps-more
        (all_append (λ (p : FirstArrival). p.time ≤ t) (jumps fs) (jump_after fs a)
        (h (all_left (λ (a : Arrival). a.time ≤ t) fs (a ∷ []) g))
        (all-jump_after (λ (p : FirstArrival). p.time ≤ t) fs a (λ j. r.0)))

-- first arrivals up to a time are up to that time at their positions
placed-until : (t : ℕ) (fs : List Arrival) → All (λ (a : Arrival). a.time ≤ t) fs → All (λ (p : FirstArrival). p.time ≤ t) (placed fs)
unfolding placed each each_after
placed-until t =
    snoc-ind (λ (fs : List Arrival). All (λ (a : Arrival). a.time ≤ t) fs → All (λ (p : FirstArrival). p.time ≤ t) (placed fs)) more
    (λ n. tt)
  where
    more : (fs : List Arrival) (a : Arrival)
        → (All (λ (a : Arrival). a.time ≤ t) fs → All (λ (p : FirstArrival). p.time ≤ t) (placed fs))
        → All (λ (a : Arrival). a.time ≤ t) (fs ++ (a ∷ []))
        → All (λ (p : FirstArrival). p.time ≤ t) (placed (fs ++ (a ∷ [])))
    more fs a h g =
        rw placed-more
        (all_append (λ (p : FirstArrival). p.time ≤ t) (placed fs) (place_after fs a ∷ [])
        (h (all_left (λ (a : Arrival). a.time ≤ t) fs (a ∷ []) g)) ((all_right (λ (a : Arrival). a.time ≤ t) fs (a ∷ []) g).0, tt))

-- so is a discontinuity among them
pub discontinuity-until : (t : ℕ) (fs : List Arrival) → All (λ (a : Arrival). a.time ≤ t) fs → (s : ℕ) (p : FirstArrival)
    → discontinuity fs s ≡ some p → p.time ≤ t
unfolding discontinuity
discontinuity-until t fs h s p e =
    all-member (λ (q : FirstArrival). q.time ≤ t) (first_above-member s (placed fs) p e).0 (placed-until t fs h)
