-- Places counted from either end: place i from the last down is index 63 - i (`get_d_reverse`). So reading place i of the count reads
-- value i in that order (`read_at`), and writing there sets that value (`write-at`). l is a list of the places' values, p the index of
-- place i. Assumes nothing.
use Prim.Native.Nat.{ℕ, suc, ◌-◌, ◌≤◌, ◌<◌}
use mathlib.Core.Path.{◌≡◌, refl, sym, ap, ◌∙◌}
use mathlib.Core.Bool.{Bool, true, false}
use mathlib.Core.Logic.{◌≢◌}
use mathlib.Core.List.{List, [], ◌∷◌, ◌++◌, reverse, reverse-cons}
use native.Mathlib.Omega.{arith}
use lib.Dec.{ltb, eqb}
use lib.ListN.{length, get_or, set, length-set, length-reverse, get_or-append}
use lib.Seq.{get_or_at, get_or-set_same, get_or-set_other, ext_get_or}
use borrow.Author.Tests.{ltb-true, ltb-false, eqb-true, eqb-false}
use Rattle.receiver.specs.Limits.{window_places}
use Rattle.rfc4737.specs.Order.{FirstArrival}
use Rattle.receiver.specs.declared.Places.{Places}
use Rattle.receiver.specs.Kept.{place_at}
use Rattle.receiver.specs.Parts.{place_from, oldest_first, in_count}
use Rattle.receiver.specs.Private.{Full, with_jump_at}

-- a list from its end
pub get_d_reverse : (l : List ℕ) (i : ℕ) → i < length l → get_or (reverse l) i 0 ≡ get_or l (length l - suc i) 0
get_d_reverse [] i h = absurd (omega arith)
get_d_reverse (x ∷ l) i h = ap (λ (m : List ℕ). get_or m i 0) (reverse-cons x l) ∙ go (λ k. get_d_reverse l i k) (ltb i (length l)) refl
  where
    go : (i < length l → get_or (reverse l) i 0 ≡ get_or l (length l - suc i) 0)
        → (t : Bool)
        → ltb i (length l) ≡ t
        → get_or (reverse l ++ (x ∷ [])) i 0 ≡ get_or (x ∷ l) (suc (length l) - suc i) 0
    go before true e =
        let k : i < length l = ltb-true _ _ e in
        let r : i < length (reverse l) = rw length-reverse k in
        let m : suc (length l) - suc i ≡ suc (length l - suc i) = omega arith in
        get_or-append (reverse l) (x ∷ []) 0 i r ∙ before k ∙ sym (ap (λ (n : ℕ). get_or (x ∷ l) n 0) m)
    go before false e =
        let k : length l ≤ i = ltb-false _ _ e in
        let n : length (reverse l) ≡ i = length-reverse l ∙ omega arith in
        let m : suc (length l) - suc i ≡ 0 = omega arith in
        get_or_at (reverse l) x [] 0 i n ∙ sym (ap (λ (n : ℕ). get_or (x ∷ l) n 0) m)

module _ (l : List ℕ) (size : length l ≡ window_places) where
  -- a place from the last down
  turned-at : (i : ℕ) → i < window_places → get_or l (window_places - 1 - i) 0 ≡ get_or (reverse l) i 0
  turned-at i h =
      let m : length l - suc i ≡ window_places - 1 - i = omega (arith, size) in
      sym (get_d_reverse l i (omega (arith, size)) ∙ ap (λ (n : ℕ). get_or l n 0) m)

  -- reading a place
  pub read_at : (down : Bool) (i p : ℕ) → i < window_places → p ≡ place_from down i → get_or l p 0 ≡ get_or (oldest_first down l) i 0
  unfolding place_from oldest_first
  read_at true i p h e = ap (λ (n : ℕ). get_or l n 0) e ∙ turned-at i h
  read_at false i p h e = ap (λ (n : ℕ). get_or l n 0) e

-- a value set from the last down
turned_set : (l : List ℕ) → length l ≡ window_places → (i v : ℕ) → i < window_places
    → reverse (set l (window_places - 1 - i) v) ≡ set (reverse l) i v
turned_set l size i v h =
    let long : length (set l (window_places - 1 - i) v) ≡ window_places = length-set l (window_places - 1 - i) v ∙ size in
    let a : length (reverse (set l (window_places - 1 - i) v)) ≡ window_places = length-reverse (set l (window_places - 1 - i) v) ∙ long in
    let r : length (reverse l) ≡ window_places = length-reverse l ∙ size in
    let b : length (set (reverse l) i v) ≡ window_places = length-set (reverse l) i v ∙ r in
    ext_get_or 0 (reverse (set l (window_places - 1 - i) v)) (set (reverse l) i v) (omega (arith, a, b))
    (λ k g. at long r k (omega (arith, a)) (eqb k i) refl)
  where
    at : length (set l (window_places - 1 - i) v) ≡ window_places → length (reverse l) ≡ window_places → (k : ℕ) → k < window_places
        → (t : Bool) → eqb k i ≡ t
        → get_or (reverse (set l (window_places - 1 - i) v)) k 0 ≡ get_or (set (reverse l) i v) k 0
    at long r k g true q =
        let same : k ≡ i = eqb-true _ _ q in
        sym (turned-at (set l (window_places - 1 - i) v) long k g)
        ∙ ap (λ (n : ℕ). get_or (set l (window_places - 1 - i) v) (window_places - 1 - n) 0) same
        ∙ get_or-set_same l (window_places - 1 - i) v 0 (omega (arith, size))
        ∙ sym (get_or-set_same (reverse l) i v 0 (omega (arith, r)))
        ∙ sym (ap (λ (n : ℕ). get_or (set (reverse l) i v) n 0) same)
    at long r k g false q =
        let ne : k ≢ i = eqb-false _ _ q in
        let other : window_places - 1 - k ≢ window_places - 1 - i = λ e. ne (omega arith) in
        sym (turned-at (set l (window_places - 1 - i) v) long k g)
        ∙ get_or-set_other l (window_places - 1 - i) (window_places - 1 - k) v 0 other
        ∙ turned-at l size k g
        ∙ sym (get_or-set_other (reverse l) i k v 0 ne)

-- writing a place
pub write-at : (l : List ℕ) → length l ≡ window_places → (down : Bool) (i p v : ℕ) → i < window_places → p ≡ place_from down i
    → oldest_first down (set l p v) ≡ set (oldest_first down l) i v
unfolding place_from oldest_first
write-at l size true i p v h e = ap (λ (n : ℕ). reverse (set l n v)) e ∙ turned_set l size i v h
write-at l size false i p v h e = ap (λ (n : ℕ). set l n v) e

-- the order does not change how many there are
pub same_length : (down : Bool) (l : List ℕ) → length (oldest_first down l) ≡ length l
unfolding oldest_first
same_length true l = length-reverse l
same_length false l = refl

-- the jump in a place, and a jump stored in one
module _ (places : Places) (full : Full places.positions places.numbers places.times) (down : Bool) (i p : ℕ) (h : i < window_places)
    (e : p ≡ place_from down i) where
  pub jump-read : place_at places p ≡ place_at (in_count down places) i
  unfolding place_at
  jump-read =
      rw (
        read_at places.positions full.0 down i p h e,
        read_at places.numbers full.1.0 down i p h e,
        read_at places.times full.1.1 down i p h e,
      )

  pub jump-written : (j : FirstArrival) → in_count down (with_jump_at places p j) ≡ with_jump_at (in_count down places) i j
  jump-written j =
      rw (
        write-at places.positions full.0 down i p j.position h e,
        write-at places.numbers full.1.0 down i p j.number h e,
        write-at places.times full.1.1 down i p j.time h e,
      )

pub same_full : (down : Bool) (positions numbers times : List ℕ) → Full positions numbers times
    → Full (oldest_first down positions) (oldest_first down numbers) (oldest_first down times)
same_full down positions numbers times f =
    (same_length down positions ∙ f.0, (same_length down numbers ∙ f.1.0, same_length down times ∙ f.1.1))
