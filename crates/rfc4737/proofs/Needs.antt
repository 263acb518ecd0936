-- Needs of packets and sizes of buffers. A test that passes whenever another does counts no fewer (`count-grows`), so a greater buffer
-- accommodates no fewer (`accommodated-grows`). A buffer of the greatest need accommodates all (`all_in`), and any smaller one misses the
-- packet that needs most (`some_out`), each by induction on the next answer. Here m is the measure, l a list of numbers or of answers, n
-- or a the next of them. Assumes nothing.
use mathlib.Core.Path.{◌≡◌, refl, sym, ap, ◌∙◌}
use mathlib.Core.Bool.{Bool, true, false, cond, not, ◌&&◌, true≢false}
use mathlib.Core.List.{List, [], ◌∷◌, ◌++◌, map, map-append}
use Prim.Native.Nat.{ℕ, ◌+◌, ◌≤◌, ◌<◌}
use native.Mathlib.Omega.{arith}
use lib.Dec.{leb, ltb}
use lib.ListN.{length, length-append}
use borrow.Author.Tests.{le-leb, lt-leb, leb-true, ltb-true, ltb-false}
use Rattle.rfc4737.specs.declared.Answer.{Answer}
use Rattle.rfc4737.specs.declared.Measure.{Measure}
use Rattle.rfc4737.specs.Arrivals.{count}
use Rattle.rfc4737.specs.Runs.{is_duplicate, arrived}
use Rattle.rfc4737.specs.Needs.{needed_for, greatest, greatest_need, accommodates, accommodated}
use Rattle.rfc4737.proofs.Lists.{snoc-ind}
use Rattle.rfc4737.proofs.Arrivals.{fold_more, count-more}
use Rattle.rfc4737.proofs.Folds.{arrived-more}

-- ---- counts

-- what passes one test passes the other
pub count-grows : {A : Type 0} (p q : A → Bool) → ((a : A) → p a ≡ true → q a ≡ true) → (l : List A) → count p l ≤ count q l
unfolding count
count-grows {A} p q h l = snoc-ind (λ (l : List A). count p l ≤ count q l) more (omega arith) l
  where
    go : (n k : ℕ) (s t : Bool) → (s ≡ true → t ≡ true) → n ≤ k → cond s (n + 1) n ≤ cond t (k + 1) k
    go n k true true g e = omega arith
    go n k true false g e = absurd (true≢false (sym (g refl)))
    go n k false true g e = omega arith
    go n k false false g e = e

    more : (l : List A) (a : A) → count p l ≤ count q l → count p (l ++ (a ∷ [])) ≤ count q (l ++ (a ∷ []))
    more l a e = rw (count-more p l a, count-more q l a) (go (count p l) (count q l) (p a) (q a) (h a) e)

-- at most as many as there are elements pass a test
pub count-few : {A : Type 0} (p : A → Bool) (l : List A) → count p l ≤ length l
unfolding count
count-few {A} p l = snoc-ind (λ (l : List A). count p l ≤ length l) more (omega arith) l
  where
    go : (n k : ℕ) → n ≤ k → (t : Bool) → cond t (n + 1) n ≤ k + 1
    go n k h true = omega arith
    go n k h false = omega arith

    more : (l : List A) (a : A) → count p l ≤ length l → count p (l ++ (a ∷ [])) ≤ length (l ++ (a ∷ []))
    more l a h = rw (count-more p l a, length-append l (a ∷ [])) (go (count p l) (length l) h (p a))

-- ---- the greatest

-- of one number more
pub greatest-more : (l : List ℕ) (n : ℕ) → greatest (l ++ (n ∷ [])) ≡ cond (ltb (greatest l) n) n (greatest l)
unfolding greatest
greatest-more l n = fold_more _ 0 l n

-- it is at least each of the two
pub greatest-least : (l : List ℕ) (n : ℕ) → (greatest l ≤ greatest (l ++ (n ∷ []))) × (n ≤ greatest (l ++ (n ∷ [])))
greatest-least l n = rw (greatest-more l n) (go (ltb (greatest l) n) refl)
  where
    go : (b : Bool) → ltb (greatest l) n ≡ b → (greatest l ≤ cond b n (greatest l)) × (n ≤ cond b n (greatest l))
    go true q = let e = ltb-true (greatest l) n q in (omega (arith, e), omega arith)
    go false q = let e = ltb-false (greatest l) n q in (omega arith, omega (arith, e))

-- and at most what both are
pub greatest-most : (l : List ℕ) (n k : ℕ) → greatest l ≤ k → n ≤ k → greatest (l ++ (n ∷ [])) ≤ k
greatest-most l n k h g = rw (greatest-more l n) (go (ltb (greatest l) n))
  where
    go : (b : Bool) → cond b n (greatest l) ≤ k
    go true = g
    go false = h

-- ---- needs

-- of one answer more
pub need-more : (m : Measure) (l : List Answer) (a : Answer)
    → greatest_need m (l ++ (a ∷ [])) ≡ cond (ltb (greatest_need m l) (needed_for m a)) (needed_for m a) (greatest_need m l)
unfolding greatest_need
need-more m l a = ap greatest (map-append (needed_for m) l (a ∷ [])) ∙ greatest-more (map (needed_for m) l) (needed_for m a)

-- it is at least the need of each record
pub need-least : (m : Measure) (l : List Answer) (a : Answer)
    → (greatest_need m l ≤ greatest_need m (l ++ (a ∷ []))) × (needed_for m a ≤ greatest_need m (l ++ (a ∷ [])))
unfolding greatest_need
need-least m l a = rw (map-append (needed_for m) l (a ∷ [])) (greatest-least (map (needed_for m) l) (needed_for m a))

-- and at most what all are
pub need-most : (m : Measure) (l : List Answer) (a : Answer) (n : ℕ) → greatest_need m l ≤ n → needed_for m a ≤ n
    → greatest_need m (l ++ (a ∷ [])) ≤ n
unfolding greatest_need
need-most m l a n h g = rw (map-append (needed_for m) l (a ∷ [])) (greatest-most (map (needed_for m) l) (needed_for m a) n h g)

pub accommodated-more : (m : Measure) (size : ℕ) (l : List Answer) (a : Answer)
    → accommodated m size (l ++ (a ∷ [])) ≡ cond (accommodates m size a) (accommodated m size l + 1) (accommodated m size l)
unfolding accommodated
accommodated-more m size l a = count-more (accommodates m size) l a

-- ---- sizes of a buffer

-- a greater buffer accommodates no less
pub accommodated-grows : (m : Measure) (l : List Answer) (a b : ℕ) → a ≤ b → accommodated m a l ≤ accommodated m b l
unfolding accommodated
accommodated-grows m l a b h = count-grows (accommodates m a) (accommodates m b) one l
  where
    go : (t : Bool) (n : ℕ) (s : Bool) → leb n a ≡ s → (t && s) ≡ true → (t && leb n b) ≡ true
    go true n true e q = le-leb n b (omega (arith, leb-true n a e, h))
    go true n false e q = absurd (true≢false (sym q))
    go false n s e q = q

    one : (r : Answer) → accommodates m a r ≡ true → accommodates m b r ≡ true
    one r q = go (not (is_duplicate r)) (needed_for m r) (leb (needed_for m r) a) refl q

-- a buffer of at least the greatest need accommodates all
pub all_in : (m : Measure) (size : ℕ) (l : List Answer) → greatest_need m l ≤ size → accommodated m size l ≡ arrived l
unfolding accommodated arrived count
all_in m size l = snoc-ind (λ (l : List Answer). greatest_need m l ≤ size → accommodated m size l ≡ arrived l) more (λ h. refl) l
  where
    go : (g n : ℕ) (t : Bool) → ltb g n ≡ t → cond t n g ≤ size → (g ≤ size) × (n ≤ size)
    go g n true e h = (omega (arith, ltb-true g n e, h), h)
    go g n false e h = (h, omega (arith, ltb-false g n e, h))

    step : (n k : ℕ) (a : Answer) → needed_for m a ≤ size → n ≡ k
        → cond (accommodates m size a) (n + 1) n ≡ cond (not (is_duplicate a)) (k + 1) k
    step n k a h e = rw (le-leb (needed_for m a) size h, e) (same (not (is_duplicate a)))
      where
        same : (t : Bool) → cond (t && true) (k + 1) k ≡ cond t (k + 1) k
        same true = refl
        same false = refl

    more : (l : List Answer) (a : Answer) → (greatest_need m l ≤ size → accommodated m size l ≡ arrived l)
        → greatest_need m (l ++ (a ∷ [])) ≤ size → accommodated m size (l ++ (a ∷ [])) ≡ arrived (l ++ (a ∷ []))
    more l a e h =
        let k = go (greatest_need m l) (needed_for m a) (ltb (greatest_need m l) (needed_for m a)) refl (rw (need-more m l a) at h) in
        accommodated-more m size l a ∙ step (accommodated m size l) (arrived l) a k.1 (e k.0) ∙ sym (arrived-more l a)

-- it never accommodates more than there are
pub few-in : (m : Measure) (size : ℕ) (l : List Answer) → accommodated m size l ≤ arrived l
unfolding accommodated arrived
few-in m size l =
    count-grows (accommodates m size) (λ (a : Answer). not (is_duplicate a)) (λ a q. go (not (is_duplicate a)) (leb (needed_for m a) size) q) l
  where
    go : (t s : Bool) → (t && s) ≡ true → t ≡ true
    go true s q = refl
    go false s q = q

-- a smaller one misses the packet that needs most
pub some_out : (m : Measure) (size : ℕ) (l : List Answer) → size < greatest_need m l → accommodated m size l < arrived l
unfolding greatest_need greatest
some_out m size l =
    snoc-ind (λ (l : List Answer). size < greatest_need m l → accommodated m size l < arrived l) more (λ h. absurd (omega arith)) l
  where
    -- the next one needs more than the size
    missed : (n k : ℕ) (a : Answer) → size < needed_for m a → n ≤ k
        → cond (accommodates m size a) (n + 1) n < cond (not (is_duplicate a)) (k + 1) k
    missed n k (Answer.Duplicate d) h e = absurd (omega arith)
    missed n k (Answer.InOrder d) h e = absurd (omega arith)
    missed n k (Answer.Reordered f) h e = rw (lt-leb (needed_for m (Answer.Reordered f)) size h) (omega arith)

    -- one before it does
    kept : (n k : ℕ) (t s : Bool) → n < k → cond (t && s) (n + 1) n < cond t (k + 1) k
    kept n k true true h = omega arith
    kept n k true false h = omega arith
    kept n k false s h = h

    go : (l : List Answer) (a : Answer) → (size < greatest_need m l → accommodated m size l < arrived l) → (t : Bool)
        → ltb (greatest_need m l) (needed_for m a) ≡ t → size < cond t (needed_for m a) (greatest_need m l)
        → cond (accommodates m size a) (accommodated m size l + 1) (accommodated m size l) < cond (not (is_duplicate a)) (arrived l + 1)
        (arrived l)
    go l a e true q h = missed (accommodated m size l) (arrived l) a h (few-in m size l)
    go l a e false q h = kept (accommodated m size l) (arrived l) (not (is_duplicate a)) (leb (needed_for m a) size) (e h)

    more : (l : List Answer) (a : Answer) → (size < greatest_need m l → accommodated m size l < arrived l)
        → size < greatest_need m (l ++ (a ∷ [])) → accommodated m size (l ++ (a ∷ [])) < arrived (l ++ (a ∷ []))
    more l a e h =
        rw (accommodated-more m size l a, arrived-more l a)
        (go l a e (ltb (greatest_need m l) (needed_for m a)) refl (rw (need-more m l a) at h))
