-- Laws of left folds, `each`, `count`, membership, the first arrivals and the record of a first copy: with the next element at the end,
-- and over the first i + 1 elements, which are the first i and the one at i (`take_more`). The first arrivals are a left fold too: a
-- packet that is among them adds nothing (`with-duplicate`), any other is the last of them (`with_first`). Either way the packets among
-- them stay those among the arrivals (`has-firsts`, by induction on the next arrival), since a copy of a packet that is there does not
-- change which packets are there (`absorbed`). So both hold by whether the packet has arrived (`firsts-duplicate`, `firsts-first`). The
-- record of a first copy is looked for from the front, so `record-append` goes by induction on the list, for any record r to count from.
-- Here l are the arrivals, a is the next one, fs are the first arrivals, s is a packet's number, d what stands past the end of a list, t
-- the outcome of a test. Assumes nothing.
use mathlib.Core.Path.{◌≡◌, refl, sym, ap, subst, ◌∙◌}
use mathlib.Core.Bool.{Bool, true, false, cond, ◌||◌, or_assoc, or-false}
use mathlib.Core.List.{List, [], ◌∷◌, ◌++◌, foldl, foldl-append}
use Prim.Native.Nat.{ℕ, suc, ◌+◌, ◌≤◌, ◌<◌}
use native.Mathlib.Nat.{add-zero}
use native.Mathlib.Numerals.{add-one}
use native.Mathlib.Omega.{arith}
use lib.Dec.{eqb}
use lib.ListN.{length, take, get_or, length-append}
use lib.Seq.{take-suc}
use borrow.Author.Tests.{eqb-true}
use Rattle.rfc4737.specs.declared.Arrival.{Arrival}
use Rattle.rfc4737.specs.Arrivals.{has, with_arrival, firsts, record_from, first_record, each_after, each, count}
use Rattle.rfc4737.proofs.Lists.{snoc-ind, each_more}

-- ---- the first i + 1 elements of a list

module _ {ℓ} {A : Type ℓ} (d : A) (l : List A) (i : ℕ) (h : i < length l) where
  -- they are the first i and the one at i
  pub take_more : take (i + 1) l ≡ take i l ++ (get_or l i d ∷ [])
  take_more = rw add-one (take-suc l i d h)

-- a left fold under one element more
pub fold_more {ℓ κ} : {A : Type ℓ} {B : Type κ} (f : B → A → B) (b : B) (l : List A) (a : A)
    → foldl f b (l ++ (a ∷ [])) ≡ f (foldl f b l) a
fold_more f b l a = foldl-append f b l (a ∷ [])

-- a left fold over the first i + 1 elements
pub fold-take {ℓ κ} : {A : Type ℓ} {B : Type κ} (f : B → A → B) (b : B) (d : A) (l : List A) (i : ℕ) → i < length l
    → foldl f b (take (i + 1) l) ≡ f (foldl f b (take i l)) (get_or l i d)
fold-take f b d l i h = rw (take_more d l i h) (fold_more f b (take i l) (get_or l i d))

module _ {ℓ κ} {A : Type ℓ} {B : Type κ} (f : List A → A → B) where
  -- `each` gives one value for each element
  pub length-each : (l : List A) → length (each f l) ≡ length l
  unfolding each each_after
  length-each l = snoc-ind (λ (l : List A). length (each f l) ≡ length l) more refl l
    where
      more : (l : List A) (a : A) → length (each f l) ≡ length l → length (each f (l ++ (a ∷ []))) ≡ length (l ++ (a ∷ []))
      more l a e =
          ap length (each_more f l a) ∙ length-append (each f l) (f l a ∷ []) ∙ ap (λ (n : ℕ). n + 1) e ∙ sym (length-append l (a ∷ []))

  -- `each` over the first i + 1 elements
  pub each_take : (d : A) (l : List A) (i : ℕ) → i < length l
      → each f (take (i + 1) l) ≡ each f (take i l) ++ (f (take i l) (get_or l i d) ∷ [])
  each_take d l i h = rw (take_more d l i h) (each_more f (take i l) (get_or l i d))

-- how many pass a test, under one element more
pub count-more {ℓ} : {A : Type ℓ} (p : A → Bool) (l : List A) (a : A) → count p (l ++ (a ∷ [])) ≡ cond (p a) (count p l + 1) (count p l)
unfolding count
count-more p l a = foldl-append _ 0 l (a ∷ [])

-- none of the values that `each` gives passes a test that no such value passes
pub count-each {ℓ κ} : {A : Type ℓ} {B : Type κ} (p : B → Bool) (f : List A → A → B)
    → ((l : List A) (a : A) → p (f l a) ≡ false)
    → (l : List A)
    → count p (each f l) ≡ 0
unfolding each each_after count
count-each {A} p f h = snoc-ind (λ (l : List A). count p (each f l) ≡ 0) more refl
  where
    more : (l : List A) (a : A) → count p (each f l) ≡ 0 → count p (each f (l ++ (a ∷ []))) ≡ 0
    more l a e = rw (each_more f l a, count-more p (each f l) (f l a), h l a) e

-- ---- membership

has-append : (s : ℕ) (l m : List Arrival) → has s (l ++ m) ≡ (has s l || has s m)
unfolding has
has-append s [] m = refl
has-append s (a ∷ l) m = rw (has-append s l m) (sym (or_assoc (eqb a.number s) (has s l) (has s m)))

pub has_more : (s : ℕ) (l : List Arrival) (a : Arrival) → has s (l ++ (a ∷ [])) ≡ (has s l || eqb a.number s)
unfolding has
has_more s l a = has-append s l (a ∷ []) ∙ ap (λ (b : Bool). has s l || b) (or-false (eqb a.number s))

-- ---- first arrivals

pub firsts_more : (l : List Arrival) (a : Arrival) → firsts (l ++ (a ∷ [])) ≡ with_arrival (firsts l) a
unfolding firsts
firsts_more l a = fold_more with_arrival [] l a

-- a packet that is among the first arrivals adds nothing
pub with-duplicate : (fs : List Arrival) (a : Arrival) → has a.number fs ≡ true → with_arrival fs a ≡ fs
unfolding with_arrival
with-duplicate fs a e = simp e

-- a packet that is not is the last of them
pub with_first : (fs : List Arrival) (a : Arrival) → has a.number fs ≡ false → with_arrival fs a ≡ fs ++ (a ∷ [])
unfolding with_arrival
with_first fs a e = simp e

-- whether packet s is among the arrivals does not change under a copy of a packet that is
absorbed : (s : ℕ) (l : List Arrival) (a : Arrival) → has a.number l ≡ true → (t : Bool) → eqb a.number s ≡ t
    → has s l ≡ (has s l || t)
absorbed s l a e false q = sym (or-false (has s l))
absorbed s l a e true q = let k : has s l ≡ true = subst (λ (n : ℕ). has n l ≡ true) (eqb-true _ _ q) e in rw k

has-with : (s : ℕ) (fs : List Arrival) (a : Arrival) (t : Bool) → has a.number fs ≡ t
    → has s (with_arrival fs a) ≡ (has s fs || eqb a.number s)
has-with s fs a true q = rw (with-duplicate fs a q) (absorbed s fs a q (eqb a.number s) refl)
has-with s fs a false q = rw (with_first fs a q) (has_more s fs a)

-- a packet is among the first arrivals exactly if it is among the arrivals
pub has-firsts : (s : ℕ) (l : List Arrival) → has s (firsts l) ≡ has s l
unfolding firsts has
has-firsts s l = snoc-ind (λ (l : List Arrival). has s (firsts l) ≡ has s l) more refl l
  where
    more : (l : List Arrival) (a : Arrival) → has s (firsts l) ≡ has s l → has s (firsts (l ++ (a ∷ []))) ≡ has s (l ++ (a ∷ []))
    more l a e =
        ap (has s) (firsts_more l a)
        ∙ has-with s (firsts l) a (has a.number (firsts l)) refl
        ∙ ap (λ (b : Bool). b || eqb a.number s) e
        ∙ sym (has_more s l a)

-- so a copy of a packet that has arrived adds nothing to them
pub firsts-duplicate : (l : List Arrival) (a : Arrival) → has a.number l ≡ true → firsts (l ++ (a ∷ [])) ≡ firsts l
firsts-duplicate l a e = firsts_more l a ∙ with-duplicate (firsts l) a (has-firsts a.number l ∙ e)

-- any other arrival is the last of them
pub firsts-first : (l : List Arrival) (a : Arrival) → has a.number l ≡ false → firsts (l ++ (a ∷ [])) ≡ firsts l ++ (a ∷ [])
firsts-first l a e = firsts_more l a ∙ with_first (firsts l) a (has-firsts a.number l ∙ e)

-- there are at most as many first arrivals as arrivals
pub length-firsts : (l : List Arrival) → length (firsts l) ≤ length l
unfolding firsts
length-firsts l = snoc-ind (λ (l : List Arrival). length (firsts l) ≤ length l) more (omega arith) l
  where
    go : (l : List Arrival) (a : Arrival) → length (firsts l) ≤ length l → (t : Bool) → has a.number (firsts l) ≡ t
        → length (with_arrival (firsts l) a) ≤ length l + 1
    go l a h true q = rw (with-duplicate (firsts l) a q) (omega arith)
    go l a h false q = rw (with_first (firsts l) a q) (simp length-append (omega arith))

    more : (l : List Arrival) (a : Arrival) → length (firsts l) ≤ length l → length (firsts (l ++ (a ∷ []))) ≤ length (l ++ (a ∷ []))
    more l a h = rw (firsts_more l a, length-append l (a ∷ [])) (go l a h (has a.number (firsts l)) refl)

-- ---- the record of a first copy

record-append : (r s : ℕ) (l : List Arrival) (a : Arrival)
    → record_from r s (l ++ (a ∷ [])) ≡ cond (has s l) (record_from r s l) (cond (eqb a.number s) (r + length l) 0)
unfolding record_from has
record-append r s [] a = rw (add-zero r)
record-append r s (b ∷ l) a = go (record-append (r + 1) s l a) (eqb b.number s)
  where
    go : record_from (r + 1) s (l ++ a ∷ []) ≡ cond (has s l) (record_from (r + 1) s l) (cond (eqb a.number s) (r + 1 + length l) 0)
        → (t : Bool)
        → cond t r (record_from (r + 1) s (l ++ a ∷ []))
        ≡ cond (t || has s l) (cond t r (record_from (r + 1) s l)) (cond (eqb a.number s) (r + suc (length l)) 0)
    go e true = refl
    go e false =
        e
        ∙ ap (λ (n : ℕ). cond (has s l) (record_from (r + 1) s l) (cond (eqb a.number s) n 0)) (omega arith)

-- under one arrival more: the arrival's own record if it is the first copy
pub record-more : (s : ℕ) (l : List Arrival) (a : Arrival)
    → first_record s (l ++ (a ∷ [])) ≡ cond (has s l) (first_record s l) (cond (eqb a.number s) (length l + 1) 0)
unfolding first_record
record-more s l a = rw record-append (ap (λ (n : ℕ). cond (has s l) (record_from 1 s l) (cond (eqb a.number s) n 0)) (omega arith))
