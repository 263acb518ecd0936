-- The sorted places of a packet are a run: all places of its arrivals, by start, equal ones side by side. They are the packet's places
-- (`same-has`), so each is one of its arrivals (`run-own`), and each of its arrivals is among them (`run-all`). The places with one key
-- rise strictly, and such a list splits at an element in one way only (`split_one`). So before a place y in the run stand, of those with
-- y's key, exactly those that came before y (`prefix_same`). So an earlier arrival has y's number, offset and length exactly if one
-- before it in the run has. As keys rise, this is the one just before it (`neighbour`). ns, ts, ls, ms and fs are the five lists, y is a
-- place, m its index in the run, t a key, p and q are tests. Assumes nothing.
use Prim.Native.Nat.{ℕ, zero, suc, ◌+◌, ◌*◌, ◌-◌, ◌≤◌, ◌<◌}
use native.Mathlib.Numerals.{add-one}
use native.Mathlib.Omega.{arith}
use mathlib.Core.Bool.{Bool, true, false, ◌&&◌, ◌||◌, true≢false}
use mathlib.Core.List.{List, [], ◌∷◌, ◌++◌}
use mathlib.Core.Path.{◌≡◌, refl, sym, ap, ap₂, subst, ◌∙◌}
use lib.Dec.{ltb, eqb}
use lib.ListN.{length, get_or, take, drop}
use lib.Seq.{length-take-le, split_at, get_or-take}
use borrow.Author.Tests.{ltb-true, ltb-false, eq-eqb, ne_eqb, eqb-true, eqb-false}
use Rattle.octets.proofs.Memory.{take_snoc}
use Rattle.std.specs.List.{All}
use Rattle.std.proofs.lemmas.List.{get_or_past}
use Rattle.std.proofs.lemmas.List.Elements.{All-cons, All-tail}
use Rattle.merging.specs.Order.{kept_if, passing, NotBelow, Rising, at_key, InOrder}
use Rattle.merging.proofs.Ordered.{at-append, rising-at}
use Rattle.merging.proofs.Permuted.{rising-passing}
use Rattle.fragments.specs.declared.Piece.{Piece}
use Rattle.fragments.specs.Pieces.{pieces_of, any, piece_start}
use Rattle.fragments.specs.Private.{no_piece}
use Rattle.fragments.specs.Places.{from, upto, places_to, places_of, key_of, piece_key, same_key, earlier_same, Run}
use Rattle.fragments.proofs.Laws.{both, any_at, any-more, any_same, pieces-length, pieces-get_or}
use Rattle.fragments.proofs.Groups.{upto-more}

-- ---- tests

-- an element that passes, where one does
any-find : (p : ℕ → Bool) (l : List ℕ) → any p l ≡ true → (k : ℕ) × ((k < length l) × (p (get_or l k 0) ≡ true))
unfolding any
any-find p [] e = absurd (true≢false (sym e))
any-find p (x ∷ l) e = go (λ z. any-find p l z) (p x) refl e
  where
    next : (k : ℕ) × ((k < length l) × (p (get_or l k 0) ≡ true)) → (k : ℕ) × ((k < suc (length l)) × (p (get_or (x ∷ l) k 0) ≡ true))
    next w = (suc w.0, (omega (arith, w.1.0), w.1.1))

    go : (any p l ≡ true → (k : ℕ) × ((k < length l) × (p (get_or l k 0) ≡ true)))
        → (t : Bool) → p x ≡ t → (t || any p l) ≡ true → (k : ℕ) × ((k < suc (length l)) × (p (get_or (x ∷ l) k 0) ≡ true))
    go r true q z = (0, (omega arith, q))
    go r false q z = next (r z)

-- one that passes two tests
pass-any : (p q : ℕ → Bool) (l : List ℕ) → any p (passing q l) ≡ any (λ (x : ℕ). q x && p x) l
unfolding any passing
pass-any p q [] = refl
pass-any p q (x ∷ l) = go (pass-any p q l) (q x)
  where
    go : any p (passing q l) ≡ any (λ (x : ℕ). q x && p x) l → (t : Bool)
        → any p (kept_if t x (passing q l)) ≡ ((t && p x) || any (λ (x : ℕ). q x && p x) l)
    go e true = ap (λ (t : Bool). p x || t) e
    go e false = e

-- of those of one key one passes the test for it exactly if one of all does
any-key : (f : ℕ → ℕ) (t : ℕ) (l : List ℕ) → any (λ (x : ℕ). eqb (f x) t) (at_key f t l) ≡ any (λ (x : ℕ). eqb (f x) t) l
any-key f t l = pass-any (λ (x : ℕ). eqb (f x) t) (λ (x : ℕ). eqb (f x) t) l ∙ any_same _ _ (λ (x : ℕ). twice (eqb (f x) t)) l
  where
    twice : (b : Bool) → (b && b) ≡ b
    twice true = refl
    twice false = refl

-- whether a place is there
abbrev has : ℕ → List ℕ → Bool
has i l = any (λ (x : ℕ). eqb x i) l

-- it is if it is among those of its key
has_key : (f : ℕ → ℕ) (i : ℕ) (l : List ℕ) → has i (at_key f (f i) l) ≡ has i l
has_key f i l = pass-any (λ (x : ℕ). eqb x i) (λ (x : ℕ). eqb (f x) (f i)) l ∙ any_same _ _ (λ (x : ℕ). go x (eqb x i) refl) l
  where
    go : (x : ℕ) (t : Bool) → eqb x i ≡ t → (eqb (f x) (f i) && t) ≡ t
    go x true e = ap (λ (b : Bool). b && true) (eq-eqb (f x) (f i) (ap f (eqb-true x i e)))
    go x false e = and_none (eqb (f x) (f i))
      where
        and_none : (b : Bool) → (b && false) ≡ false
        and_none true = refl
        and_none false = refl

-- lists that agree at every key have the same places
same-has : (f : ℕ → ℕ) (l m : List ℕ) → ((t : ℕ) → at_key f t l ≡ at_key f t m) → (i : ℕ) → has i l ≡ has i m
same-has f l m same i = sym (has_key f i l) ∙ ap (has i) (same (f i)) ∙ has_key f i m

-- the first arrivals, by their places
any-take : (p : Piece → Bool) (l : List Piece) (y : ℕ) → y ≤ length l → any p (take y l) ≡ any (λ (x : ℕ). p (get_or l x no_piece)) (upto y)
unfolding any from
any-take p l zero h = refl
any-take p l (suc y) h =
    ap (any p) (ap (λ (j : ℕ). take j l) (sym (add-one y)) ∙ take_snoc l y no_piece (omega arith))
    ∙ any-more p (take y l) (get_or l y no_piece)
    ∙ ap (λ (t : Bool). t || p (get_or l y no_piece)) (any-take p l y (omega arith))
    ∙ sym (ap (any (λ (x : ℕ). p (get_or l x no_piece))) (upto-more y) ∙ any-more (λ (x : ℕ). p (get_or l x no_piece)) (upto y) y)

-- ---- strictly rising lists

abbrev Above : ℕ → List ℕ → Type 0
Above t [] = Unit
Above t (x ∷ l) = (t < x) × Above t l

abbrev Strict : List ℕ → Type 0
Strict [] = Unit
Strict (x ∷ l) = Above x l × Strict l

above_from : (t a k : ℕ) → t < a → Above t (from a k)
unfolding from
above_from t a zero h = tt
above_from t a (suc k) h = (h, above_from t (suc a) k (omega arith))

strict-from : (a k : ℕ) → Strict (from a k)
unfolding from
strict-from a zero = tt
strict-from a (suc k) = (above_from a (suc a) k (omega arith), strict-from (suc a) k)

above-has : (t y : ℕ) (r s : List ℕ) → Above t (r ++ (y ∷ s)) → t < y
above-has t y [] s h = h.0
above-has t y (x ∷ r) s h = above-has t y r s h.1

-- a strictly rising list splits at an element in one way
split_one : (y : ℕ) (p q r s : List ℕ) → Strict (r ++ (y ∷ s)) → p ++ (y ∷ q) ≡ r ++ (y ∷ s) → p ≡ r
split_one y [] q [] s h e = refl
split_one y [] q (x ∷ r) s h e =
    let z : y ≡ x = cc in
    absurd (omega (arith, above-has x y r s h.0, z))
split_one y (x ∷ p) q [] s h e =
    let z : p ++ (y ∷ q) ≡ s = cc in
    absurd (omega (arith, above-has y y p q (subst (Above y) (sym z) h.0)))
split_one y (x ∷ p) q (w ∷ r) s h e =
    let z : x ≡ w = cc in
    let v : p ++ (y ∷ q) ≡ r ++ (y ∷ s) = cc in
    ap₂ (λ (a : ℕ) (l : List ℕ). a ∷ l) z (split_one y p q r s h.1 v)

from-split : (a j k : ℕ) → from a (j + suc k) ≡ from a j ++ ((a + j) ∷ from (suc (a + j)) k)
unfolding from
from-split a zero k =
    let e : zero + suc k ≡ suc k = omega arith in
    let d : a ≡ a + 0 = omega arith in
    ap (from a) e ∙ ap (λ (b : ℕ). b ∷ from (suc b) k) d
from-split a (suc j) k =
    let e : suc j + suc k ≡ suc (j + suc k) = omega arith in
    let d : suc a + j ≡ a + suc j = omega arith in
    ap (from a) e ∙ ap (λ (l : List ℕ). a ∷ l) (from-split (suc a) j k ∙ ap (λ (b : ℕ). from (suc a) j ++ (b ∷ from (suc b) k)) d)

from-length : (a k : ℕ) → length (from a k) ≡ k
unfolding from
from-length a zero = refl
from-length a (suc k) = ap suc (from-length (suc a) k)

from-get_or : (a k i : ℕ) → i < k → get_or (from a k) i 0 ≡ a + i
unfolding from
from-get_or a zero i h = absurd (omega arith)
from-get_or a (suc k) zero h = let z : a ≡ a + 0 = omega arith in z
from-get_or a (suc k) (suc i) h = from-get_or (suc a) k i (omega arith) ∙ (let z : suc a + i ≡ a + suc i = omega arith in z)

-- tests that agree on the places
any-from : (p q : ℕ → Bool) (a k : ℕ) → ((x : ℕ) → x < a + k → p x ≡ q x) → any p (from a k) ≡ any q (from a k)
unfolding any from
any-from p q a zero h = refl
any-from p q a (suc k) h = ap₂ (λ (s t : Bool). s || t) (h a (omega arith)) (any-from p q (suc a) k (λ x g. h x (omega arith)))

above-passing : (q : ℕ → Bool) (b : ℕ) (l : List ℕ) → Above b l → Above b (passing q l)
unfolding passing
above-passing q b [] h = tt
above-passing q b (x ∷ l) h = go (above-passing q b l h.1) (q x)
  where
    go : Above b (passing q l) → (d : Bool) → Above b (kept_if d x (passing q l))
    go r true = (h.0, r)
    go r false = r

strict-passing : (q : ℕ → Bool) (l : List ℕ) → Strict l → Strict (passing q l)
unfolding passing
strict-passing q [] h = tt
strict-passing q (x ∷ l) h = go (above-passing q x l h.0) (strict-passing q l h.1) (q x)
  where
    go : Above x (passing q l) → Strict (passing q l) → (d : Bool) → Strict (kept_if d x (passing q l))
    go a r true = (a, r)
    go a r false = r

-- at its own key a place is there
at_own : (f : ℕ → ℕ) (y t : ℕ) (l m : List ℕ) → f y ≡ t → at_key f t (l ++ (y ∷ m)) ≡ at_key f t l ++ (y ∷ at_key f t m)
unfolding passing
at_own f y t l m e =
    at-append f t l (y ∷ m) ∙ ap (λ (d : Bool). at_key f t l ++ kept_if d y (at_key f t m)) (eq-eqb (f y) t e)

-- ---- keys

key-eqb : (o l o' l' : ℕ) → l < 65536 → l' < 65536 → eqb (o * 65536 + l) (o' * 65536 + l') ≡ (eqb o o' && eqb l l')
key-eqb o l o' l' b d = go (eqb o o') refl (eqb l l') refl
  where
    go : (y : Bool) → eqb o o' ≡ y → (z : Bool) → eqb l l' ≡ z → eqb (o * 65536 + l) (o' * 65536 + l') ≡ (y && z)
    go true q true r =
        let e : o * 65536 + l ≡ o' * 65536 + l' = omega (arith, eqb-true o o' q, eqb-true l l' r) in
        eq-eqb (o * 65536 + l) (o' * 65536 + l') e
    go true q false r =
        ne_eqb (o * 65536 + l) (o' * 65536 + l') (λ e. eqb-false l l' r (let z : l ≡ l' = omega (arith, e, eqb-true o o' q) in z))
    go false q z r = ne_eqb (o * 65536 + l) (o' * 65536 + l') (λ e. eqb-false o o' q (let z : o ≡ o' = omega (arith, e) in z))

-- ---- a packet's places

below-upto : (t a k : ℕ) → t ≤ a → NotBelow (λ (x : ℕ). x) t (from a k)
unfolding from
below-upto t a zero h = tt
below-upto t a (suc k) h = (h, below-upto t (suc a) k (omega arith))

rising-upto : (a k : ℕ) → Rising (λ (x : ℕ). x) (from a k)
unfolding from
rising-upto a zero = tt
rising-upto a (suc k) = (below-upto a (suc a) k (omega arith), rising-upto (suc a) k)

-- they rise
pub places-rise : (ns : List ℕ) (s : ℕ) → Rising (λ (x : ℕ). x) (places_of ns s)
places-rise ns s = rising-passing (λ (x : ℕ). x) (λ (x : ℕ). eqb (get_or ns x 0) s) (upto (length ns)) (rising-upto 0 (length ns))

short-upto : (a k : ℕ) → a + k ≤ 65536 → All (λ (x : ℕ). x < 65536) (from a k)
unfolding from
short-upto a zero h = λ i d g. absurd (omega arith)
short-upto a (suc k) h = All-cons (λ (x : ℕ). x < 65536) a (from (suc a) k) (omega arith) (short-upto (suc a) k (omega arith))

short-passing : (q : ℕ → Bool) (l : List ℕ) → All (λ (x : ℕ). x < 65536) l → All (λ (x : ℕ). x < 65536) (passing q l)
unfolding passing
short-passing q [] h = h
short-passing q (x ∷ l) h = go (short-passing q l (All-tail (λ (x : ℕ). x < 65536) x l h)) (q x)
  where
    go : All (λ (x : ℕ). x < 65536) (passing q l) → (d : Bool) → All (λ (x : ℕ). x < 65536) (kept_if d x (passing q l))
    go m true = All-cons (λ (x : ℕ). x < 65536) x (passing q l) (h 0 0 (omega arith)) m
    go m false = m

-- each is below 65,536
pub places-short : (ns : List ℕ) (s : ℕ) → length ns ≤ 65536 → All (λ (x : ℕ). x < 65536) (places_of ns s)
places-short ns s h = short-passing (λ (x : ℕ). eqb (get_or ns x 0) s) (upto (length ns)) (short-upto 0 (length ns) (omega arith))

-- every element is below 65,536
pub record Short (l : List ℕ) : Type 0 where
  pub at : (i : ℕ) → get_or l i 0 < 65536

pub short-all : (l : List ℕ) → All (λ (x : ℕ). x < 65536) l → Short l
short-all l h = record { at = λ i. go i (ltb i (length l)) refl }
  where
    go : (i : ℕ) → (t : Bool) → ltb i (length l) ≡ t → get_or l i 0 < 65536
    go i true e = h i 0 (ltb-true i (length l) e)
    go i false e = omega (arith, get_or_past l i 0 (ltb-false i (length l) e))

module _ (ns ts ls ms fs : List ℕ) (short : Short ls) where
  abbrev number : ℕ → ℕ
  number x = get_or ns x 0

  abbrev key : ℕ → ℕ
  key = piece_key ls fs

  abbrev pieces : List Piece
  pieces = pieces_of ns ts ls ms fs

  key-of : (x : ℕ) → x < length ns → key_of (get_or pieces x no_piece) ≡ key x
  unfolding piece_key
  key-of x h = ap key_of (pieces-get_or ns ts ls ms fs x h)

  number_of : (x : ℕ) → x < length ns → (get_or pieces x no_piece).number ≡ number x
  number_of x h = ap (λ (a : Piece). a.number) (pieces-get_or ns ts ls ms fs x h)

  -- two arrivals of one number and one key
  same-one : (s x y : ℕ) → x < length ns → y < length ns → number y ≡ s
      → same_key (get_or pieces y no_piece) (get_or pieces x no_piece) ≡ (eqb (number x) s && eqb (key x) (key y))
  unfolding piece_key same_key
  same-one s x y h g e =
      rw (
        pieces-get_or ns ts ls ms fs y g,
        pieces-get_or ns ts ls ms fs x h,
        e,
        key-eqb (get_or fs x 0) (get_or ls x 0) (get_or fs y 0) (get_or ls y 0) (short.at x) (short.at y),
      )

  earlier-same : (s y : ℕ) → y < length ns → number y ≡ s → earlier_same pieces y ≡ any (λ (x : ℕ). eqb (key x) (key y)) (places_to ns s y)
  earlier-same s y g e =
      any-take (same_key (get_or pieces y no_piece)) pieces y (omega (arith, pieces-length ns ts ls ms fs))
      ∙ any-from (λ (x : ℕ). same_key (get_or pieces y no_piece) (get_or pieces x no_piece)) (λ (x : ℕ). eqb (number x) s && eqb (key x) (key y))
      0 y (λ x h. same-one s x y (omega arith) g e)
      ∙ sym (pass-any (λ (x : ℕ). eqb (key x) (key y)) (λ (x : ℕ). eqb (number x) s) (upto y))

  module _ (s : ℕ) (run : List ℕ) (o : InOrder key (places_of ns s) run) where
    run-own : (m : ℕ) → m < length run → (get_or run m 0 < length ns) × (number (get_or run m 0) ≡ s)
    run-own m h =
        let y : ℕ = get_or run m 0 in
        let a : has y (places_of ns s) ≡ true =
        sym (same-has key run (places_of ns s) o.same y) ∙ any_at (λ (x : ℕ). eqb x y) run m 0 h (eq-eqb y y refl) in
        let w =
        any-find (λ (x : ℕ). eqb (number x) s && eqb x y) (upto (length ns))
        (sym (pass-any (λ (x : ℕ). eqb x y) (λ (x : ℕ). eqb (number x) s) (upto (length ns))) ∙ a) in
        let x : ℕ = get_or (upto (length ns)) w.0 0 in
        let b = both (eqb (number x) s) (eqb x y) w.1.1 in
        let k : w.0 < length ns = omega (arith, w.1.0, from-length 0 (length ns)) in
        let e : x ≡ y = eqb-true x y b.1 in
        (omega (arith, e, k, from-get_or 0 (length ns) w.0 k), ap number (sym e) ∙ eqb-true (number x) s b.0)

    run-all : (i : ℕ) → i < length ns → number i ≡ s → (m : ℕ) × ((m < length run) × (get_or run m 0 ≡ i))
    run-all i h e =
        let d : get_or (upto (length ns)) i 0 ≡ i = from-get_or 0 (length ns) i h ∙ (let z : 0 + i ≡ i = omega arith in z) in
        let t : (eqb (number i) s && eqb i i) ≡ true = ap₂ (λ (x y : Bool). x && y) (eq-eqb (number i) s e) (eq-eqb i i refl) in
        let a : has i (places_of ns s) ≡ true =
        pass-any (λ (x : ℕ). eqb x i) (λ (x : ℕ). eqb (number x) s) (upto (length ns))
        ∙ any_at (λ (x : ℕ). eqb (number x) s && eqb x i) (upto (length ns)) i 0 (omega (arith, from-length 0 (length ns)))
        (ap (λ (x : ℕ). eqb (number x) s && eqb x i) d ∙ t) in
        let w = any-find (λ (x : ℕ). eqb x i) run (same-has key run (places_of ns s) o.same i ∙ a) in
        (w.0, (w.1.0, eqb-true (get_or run w.0 0) i w.1.1))

    module _ (m : ℕ) (h : m < length run) where
      abbrev y : ℕ
      y = get_or run m 0

      -- of its key those before it are those that came before
      prefix_same : at_key key (key y) (take m run) ≡ at_key key (key y) (places_to ns s y)
      prefix_same =
          let own = run-own m h in
          let n : ℕ = length ns in
          let j : n ≡ y + suc (n - suc y) = omega (arith, own.0) in
          let u : upto n ≡ upto y ++ (y ∷ from (suc y) (n - suc y)) =
          ap (from 0) j ∙ from-split 0 y (n - suc y) ∙ ap (λ (b : ℕ). from 0 y ++ (b ∷ from (suc b) (n - suc y)))
          (let z : 0 + y ≡ y = omega arith in z) in
          let rest : List ℕ = at_key number s (from (suc y) (n - suc y)) in
          let p : places_of ns s ≡ places_to ns s y ++ (y ∷ rest) =
          ap (at_key number s) u ∙ at_own number y s (upto y) (from (suc y) (n - suc y)) own.1 in
          let e : at_key key (key y) (places_of ns s) ≡ at_key key (key y) (places_to ns s y) ++ (y ∷ at_key key (key y) rest) =
          ap (at_key key (key y)) p ∙ at_own key y (key y) (places_to ns s y) rest refl in
          let d : at_key key (key y) run ≡ at_key key (key y) (take m run) ++ (y ∷ at_key key (key y) (drop (suc m) run)) =
          ap (at_key key (key y)) (split_at run m 0 h) ∙ at_own key y (key y) (take m run) (drop (suc m) run) refl in
          split_one y (at_key key (key y) (take m run)) (at_key key (key y) (drop (suc m) run)) (at_key key (key y) (places_to ns s y))
          (at_key key (key y) rest)
          (subst Strict e (strict-passing _ (places_of ns s) (strict-passing _ (upto n) (strict-from 0 n))))
          (sym d ∙ o.same (key y) ∙ e)

      before_same : earlier_same pieces y ≡ any (λ (x : ℕ). eqb (key x) (key y)) (take m run)
      before_same =
          earlier-same s y (run-own m h).0 (run-own m h).1
          ∙ sym (any-key key (key y) (places_to ns s y)) ∙ ap (any (λ (x : ℕ). eqb (key x) (key y))) (sym prefix_same)
          ∙ any-key key (key y) (take m run)

    -- the first has none before it
    no-neighbour : (h : 0 < length run) → earlier_same pieces (get_or run 0 0) ≡ false
    unfolding any
    no-neighbour h = before_same 0 h

    -- the one before it decides
    neighbour : (m : ℕ) → m + 1 < length run → earlier_same pieces (get_or run (m + 1) 0) ≡ eqb (key (get_or run m 0)) (key (get_or run (m + 1) 0))
    neighbour m h =
        before_same (m + 1) h
        ∙ ap (any (λ (x : ℕ). eqb (key x) (key (get_or run (m + 1) 0)))) (take_snoc run m 0 (omega arith))
        ∙ any-more (λ (x : ℕ). eqb (key x) (key (get_or run (m + 1) 0))) (take m run) (get_or run m 0)
        ∙ go (any (λ (x : ℕ). eqb (key x) (key (get_or run (m + 1) 0))) (take m run)) refl
      where
        go : (b : Bool) → any (λ (x : ℕ). eqb (key x) (key (get_or run (m + 1) 0))) (take m run) ≡ b
            → (b || eqb (key (get_or run m 0)) (key (get_or run (m + 1) 0))) ≡ eqb (key (get_or run m 0)) (key (get_or run (m + 1) 0))
        go false e = refl
        go true e =
            let w = any-find (λ (x : ℕ). eqb (key x) (key (get_or run (m + 1) 0))) (take m run) e in
            let k : length (take m run) ≡ m = length-take-le m run (omega arith) in
            let i : w.0 < m = omega (arith, w.1.0, k) in
            let a : key (get_or (take m run) w.0 0) ≡ key (get_or run (m + 1) 0) =
            eqb-true (key (get_or (take m run) w.0 0)) (key (get_or run (m + 1) 0)) w.1.1 in
            let c : key (get_or (take m run) w.0 0) ≡ key (get_or run w.0 0) = ap key (get_or-take m run w.0 0 i) in
            let lo = rising-at key run o.rising w.0 m 0 (omega arith) (omega arith) in
            let hi = rising-at key run o.rising m (m + 1) 0 (omega arith) h in
            sym (eq-eqb (key (get_or run m 0)) (key (get_or run (m + 1) 0))
            (let z : key (get_or run m 0) ≡ key (get_or run (m + 1) 0) = omega arith in z))

    start-rises : (x z : ℕ) → x < length ns → z < length ns → key x ≤ key z
        → piece_start (get_or pieces x no_piece) ≤ piece_start (get_or pieces z no_piece)
    unfolding piece_key
    start-rises x z h g e =
        let a = ap piece_start (pieces-get_or ns ts ls ms fs x h) in
        let b = ap piece_start (pieces-get_or ns ts ls ms fs z g) in
        omega (arith, a, b, e, short.at x, short.at z)

    pub run_of : Run pieces s run
    run_of =
        let n = pieces-length ns ts ls ms fs in
        record {
          inside = λ m h. omega (arith, (run-own m h).0);
          own = λ m h. number_of (get_or run m 0) (run-own m h).0 ∙ (run-own m h).1;
          all = λ i h e. let g : i < length ns = omega arith in run-all i g (sym (number_of i g) ∙ e);
          rising =
              λ m k h g. let i : m < length run =
              omega arith in start-rises (get_or run m 0) (get_or run k 0) (run-own m i).0 (run-own k g).0
              (rising-at key run o.rising m k 0 h g);
          first = no-neighbour;
          next = λ m h g.
              let i : m - 1 < length run = omega arith in
              let e : m - 1 + 1 ≡ m = omega arith in
              let d : m - 1 + 1 < length run = omega arith in
              ap (λ (j : ℕ). earlier_same pieces (get_or run j 0)) (sym e) ∙ neighbour (m - 1) d
              ∙ ap (λ (j : ℕ). eqb (key (get_or run (m - 1) 0)) (key (get_or run j 0))) e
              ∙ sym (ap₂ (λ (x z : ℕ). eqb x z) (key-of (get_or run (m - 1) 0) (run-own (m - 1) i).0)
              (key-of (get_or run m 0) (run-own m g).0));
        }
