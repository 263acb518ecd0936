-- Laws of memory. A part is `take` after `drop`, and its laws follow from theirs. `splice` is three pieces one after the other: what stood
-- before the offset, what is written, what stood after. Its laws take them apart by their lengths; two writes side by side are one
-- (`splice-next`, `splice-prior`). `over` is `splice` at offset 0. `put` is `splice` if there is room, and else changes nothing. Last come
-- two loops that store xs element by element: after i turns memory holds the first i of xs from an offset on (`copy-next`), or at the
-- start (`fill-next`), and a turn stores the next one. Here l is any list, old memory before a write, xs and ys what is written, at and
-- next are offsets, n, m and k counts, z what is read past an end; in the loops d is memory at the head and x the element stored. Assumes
-- nothing.
use Prim.Native.Nat.{ℕ, zero, suc, ◌+◌, ◌-◌, ◌≤◌, ◌<◌, zero-le}
use native.Mathlib.Nat.{zero-add, add-zero, add_assoc, zero-sub, sub-zero, suc-sub-suc}
use native.Mathlib.Numerals.{add-one}
use native.Mathlib.Omega.{arith}
use mathlib.Core.Bool.{Bool, true, false}
use mathlib.Core.Path.{◌≡◌, refl, sym, ap, ◌∙◌, subst}
use mathlib.Core.List.{List, [], ◌∷◌, ◌++◌, append_assoc, append-nil}
use borrow.Author.Tests.{le-leb, lt-leb, leb-true, leb-false}
use lib.Dec.{leb}
use lib.ListN.{length, get_or, take, drop, set, length-append, length-take, length-drop, take-append-drop, drop_of_length-le}
use lib.Seq.{length-take-le, take_all, take-nil, take-length, take-suc, take-take, take-add, take_at, take-append-le, take-append_seam, drop-drop, drop_at, get_or-drop, set_split, set_at, drop-cons, append_snoc}
use Rattle.octets.specs.Memory.{part, over, splice, put}

module _ {ℓ} {A : Type ℓ} where
  -- ---- a part

  -- one element more from the start
  pub take_snoc : (l : List A) (i : ℕ) (z : A) → i < length l → take (i + 1) l ≡ take i l ++ (get_or l i z ∷ [])
  take_snoc l i z h = rw add-one (take-suc l i z h)

  -- all but the first k of the first n
  pub drop-take : (k n : ℕ) (l : List A) → drop k (take n l) ≡ take (n - k) (drop k l)
  drop-take zero n l = rw sub-zero
  drop-take (suc k) zero l = rw zero-sub
  drop-take (suc k) (suc n) [] = sym (take-nil (suc n - suc k))
  drop-take (suc k) (suc n) (x ∷ xs) = rw suc-sub-suc (drop-take k n xs)

  -- a part is what the elements up to its end have from its offset on
  pub part-drop : (at n : ℕ) (l : List A) → part at n l ≡ drop at (take (at + n) l)
  part-drop at n l =
      let e : n ≡ at + n - at = omega arith in
      ap (λ (k : ℕ). take k (drop at l)) e ∙ sym (drop-take at (at + n) l)

  -- as long as asked, where there is as much
  pub part_length : (at n : ℕ) (l : List A) → at + n ≤ length l → length (part at n l) ≡ n
  part_length at n l h = simp (length-take, length-drop) (omega arith)

  -- never longer than asked
  pub part-most : (at n : ℕ) (l : List A) → length (part at n l) ≤ n
  part-most at n l = simp length-take (omega arith)

  -- all that follows, where that is no more than asked
  pub part-rest : (at n : ℕ) (l : List A) → length l ≤ at + n → part at n l ≡ drop at l
  part-rest at n l h =
      let p : length (drop at l) ≤ n = simp length-drop (omega arith) in
      take_all n (drop at l) p

  -- nothing, past the end
  pub part_none : (at n : ℕ) (l : List A) → length l ≤ at → part at n l ≡ []
  part_none at n l h = rw (drop_of_length-le l h) (take-nil n)

  pub part-append : (at n m : ℕ) (l : List A) → part at (n + m) l ≡ part at n l ++ part (at + n) m l
  part-append at n m l = rw (take-add n m (drop at l), drop-drop n at l)

  -- one element more
  pub part-snoc : (at n : ℕ) (l : List A) (z : A) → at + n < length l → part at (n + 1) l ≡ part at n l ++ (get_or l (at + n) z ∷ [])
  part-snoc at n l z h =
      let p : n < length (drop at l) = simp length-drop (omega arith) in
      rw (add-one, take-suc (drop at l) n z p, get_or-drop)

  pub part-part : (at n from m : ℕ) (l : List A) → from + m ≤ n → part from m (part at n l) ≡ part (at + from) m l
  part-part at n from m l h =
      let p : m ≤ n - from = omega arith in
      rw (drop-take from n (drop at l), take-take m (n - from) (drop from (drop at l)) p, drop-drop from at l)

  -- a part as it is taken by its start and its end
  abbrev pub taken : ℕ → ℕ → List A → List A
  taken at n l = part at (at + n - at) l

  -- a part of it
  pub taken-part : (at n from m : ℕ) (l : List A) → from + m ≤ n → part from m (taken at n l) ≡ part (at + from) m l
  taken-part at n from m l h = part-part at (at + n - at) from m l (omega arith)

  -- ---- splice

  pub splice-nil : (at : ℕ) (old : List A) → splice at [] old ≡ old
  splice-nil at old = rw add-zero (take-append-drop at old)

  pub splice-length : (at : ℕ) (xs old : List A) → at + length xs ≤ length old → length (splice at xs old) ≡ length old
  splice-length at xs old h = simp (length-append, length-take, length-drop) (omega arith)

  -- how much stands up to the end of what was written
  head-length : (at : ℕ) (xs old : List A) → at ≤ length old → length (take at old ++ xs) ≡ at + length xs
  head-length at xs old h = simp (length-append, length-take) (omega arith)

  -- up to the end of what was written
  splice-head : (at : ℕ) (xs old : List A) → at ≤ length old → take (at + length xs) (splice at xs old) ≡ take at old ++ xs
  splice-head at xs old h =
      rw (← append_assoc) (take_at (take at old ++ xs) (drop (at + length xs) old) (at + length xs) (head-length at xs old h))

  -- the first n stay, where n is at most the offset
  pub splice-take : (at : ℕ) (xs old : List A) (n : ℕ) → n ≤ at → at ≤ length old → take n (splice at xs old) ≡ take n old
  splice-take at xs old n h k =
      let e : n ≤ length (take at old) = simp length-take (omega arith) in
      take-append-le n (take at old) (xs ++ drop (at + length xs) old) e ∙ take-take n at old h

  -- from the offset on
  pub splice-tail : (at : ℕ) (xs old : List A) → at ≤ length old → drop at (splice at xs old) ≡ xs ++ drop (at + length xs) old
  splice-tail at xs old h = drop_at (take at old) (xs ++ drop (at + length xs) old) at (length-take-le at old h)

  -- all but the first n stay, where what was written ends by n
  pub splice-drop : (at : ℕ) (xs old : List A) (n : ℕ) → at + length xs ≤ n → at ≤ length old → drop n (splice at xs old) ≡ drop n old
  splice-drop at xs old n h k =
      let end : ℕ = at + length xs in
      let e : end + (n - end) ≡ n = omega arith in
      let q : drop end (splice at xs old) ≡ drop end old =
      rw (← append_assoc) (drop_at (take at old ++ xs) (drop end old) end (head-length at xs old k)) in
      subst (λ (m : ℕ). drop m (splice at xs old) ≡ drop m old) e
      (sym (drop-drop (n - end) end (splice at xs old)) ∙ ap (λ (l : List A). drop (n - end) l) q ∙ drop-drop (n - end) end old)

  -- n elements written to the part from `at` to `at + n`, as `copy_from_slice` does
  pub splice-written : (at n : ℕ) (xs old : List A) → length xs ≡ n → take at old ++ (xs ++ drop (at + n - at) (drop at old)) ≡ splice at xs old
  splice-written at n xs old e =
      let k : at + n - at ≡ n = omega arith in
      rw (k, drop-drop n at old, e)

  -- reading back
  pub splice-part : (at : ℕ) (xs old : List A) → at ≤ length old → part at (length xs) (splice at xs old) ≡ xs
  splice-part at xs old h = rw (splice-tail at xs old h) (take-append_seam xs (drop (at + length xs) old))

  -- written on, at the next offset: one write of both
  pub splice-next : (at next : ℕ) (xs ys old : List A) → at + length xs ≡ next → at ≤ length old
      → splice next ys (splice at xs old) ≡ splice at (xs ++ ys) old
  splice-next at next xs ys old e h =
      let p : at + length xs ≤ at + length xs + length ys = omega arith in
      rw (← e, splice-head at xs old h, splice-drop at xs old (at + length xs + length ys) p h)
      (simp (append_assoc, length-append, add_assoc))

  -- written after what stands behind it: one write of both
  pub splice-prior : (at next : ℕ) (xs ys old : List A) → at + length xs ≡ next → next ≤ length old
      → splice at xs (splice next ys old) ≡ splice at (xs ++ ys) old
  splice-prior at next xs ys old e h =
      let p : at ≤ next = omega arith in
      rw (e, splice-take next ys old at p h, splice-tail next ys old h, ← e) (simp (append_assoc, length-append, add_assoc))

  -- one element stored
  pub splice-set : (at : ℕ) (x : A) (old : List A) → at < length old → set old at x ≡ splice at (x ∷ []) old
  splice-set at x old h = rw add-one (set_split old at x h)

  -- ---- over

  pub over-splice : (xs old : List A) → over xs old ≡ splice 0 xs old
  over-splice xs old = rw zero-add

  pub over-length : (xs old : List A) → length xs ≤ length old → length (over xs old) ≡ length old
  over-length xs old h = simp (length-append, length-drop) (omega arith)

  -- reading back
  pub over-read : (xs old : List A) → take (length xs) (over xs old) ≡ xs
  over-read xs old = take-append_seam xs (drop (length xs) old)

  -- the same of memory l after it, by the number n of elements written
  pub over_first : (xs old : List A) {l : List A} {n : ℕ} → n ≡ length xs → l ≡ over xs old → (n ≤ length l) × (take n l ≡ xs)
  over_first xs old e f = rw (f, e, length-append xs (drop (length xs) old)) (omega arith, over-read xs old)

  -- the first n are those of xs, where n is at most the number written
  pub over-take : (xs old : List A) (n : ℕ) → n ≤ length xs → take n (over xs old) ≡ take n xs
  over-take xs old n h = take-append-le n xs (drop (length xs) old) h

  -- all but the first n stay, where n is at least the number written
  pub over-drop : (xs old : List A) (n : ℕ) → length xs ≤ n → drop n (over xs old) ≡ drop n old
  over-drop xs old n h =
      let p : 0 + length xs ≤ n = omega arith in
      rw over-splice (splice-drop 0 xs old n p zero-le)

  -- written on, at the next offset: one write of both
  pub over-next : (at : ℕ) (xs ys old : List A) → length xs ≡ at → splice at ys (over xs old) ≡ over (xs ++ ys) old
  over-next at xs ys old e =
      let p : 0 + length xs ≡ at = omega arith in
      rw (over-splice xs old, over-splice (xs ++ ys) old) (splice-next 0 at xs ys old p zero-le)

  -- ---- put

  -- where there is room
  pub put-room : (at : ℕ) (xs old : List A) → at + length xs ≤ length old → put at xs old ≡ splice at xs old
  unfolding put
  put-room at xs old h = rw le-leb

  -- where there is none
  pub put-none : (at : ℕ) (xs old : List A) → length old < at + length xs → put at xs old ≡ old
  unfolding put
  put-none at xs old h = rw lt-leb

  pub put-length : (at : ℕ) (xs old : List A) → length (put at xs old) ≡ length old
  put-length at xs old = go (leb (at + length xs) (length old)) refl where
    go : (t : Bool) → leb (at + length xs) (length old) ≡ t → length (put at xs old) ≡ length old
    go true e =
        let h : at + length xs ≤ length old = leb-true (at + length xs) (length old) e in
        ap length (put-room at xs old h) ∙ splice-length at xs old h
    go false e = ap length (put-none at xs old (leb-false (at + length xs) (length old) e))

  -- reading back, where there is room
  pub put-part : (at n : ℕ) (xs old : List A) → length xs ≡ n → at + n ≤ length old → part at n (put at xs old) ≡ xs
  put-part at n xs old e h =
      let p : at + length xs ≤ length old = rw e h in
      let q : at ≤ length old = omega arith in
      rw (← e, put-room at xs old p) (splice-part at xs old q)

  -- put on, at the next offset, where there is room for both
  pub put_next : (at next : ℕ) (xs ys old : List A) → at + length xs ≡ next → next + length ys ≤ length old
      → put next ys (put at xs old) ≡ put at (xs ++ ys) old
  put_next at next xs ys old e h =
      let p : at + length xs ≤ length old = omega arith in
      let q : next + length ys ≤ length (splice at xs old) = rw splice-length h in
      let r : at + length (xs ++ ys) ≤ length old = simp length-append (omega arith) in
      let s : at ≤ length old = omega arith in
      rw (put-room at xs old p, put-room next ys (splice at xs old) q, put-room at (xs ++ ys) old r) (splice-next at next xs ys old e s)

  -- put over all there is
  put_all : (xs old : List A) → length xs ≡ length old → put 0 xs old ≡ xs
  put_all xs old e =
      let p : 0 + length xs ≤ length old = omega arith in
      let q : length old ≤ 0 + length xs = omega arith in
      rw (put-room 0 xs old p, drop_of_length-le old q) (append-nil xs)

  -- put over all of a borrowed part: written in the whole, once the borrow ends
  pub put-lent : (at n : ℕ) (xs old : List A) {lent : List A} → length xs ≡ n → at + n ≤ length old → lent ≡ put 0 xs (taken at n old)
      → take at old ++ (lent ++ drop (at + n - at) (drop at old)) ≡ splice at xs old
  put-lent at n xs old e h f =
      let k : at + n - at ≡ n = omega arith in
      rw (f, k, put_all xs (part at n old) (e ∙ sym (part_length at n old h)), drop-drop n at old, e)

  -- put after what was written at the start, where there is room for both
  pub put-over : (at : ℕ) (xs ys old : List A) → length xs ≡ at → at + length ys ≤ length old
      → put at ys (over xs old) ≡ over (xs ++ ys) old
  put-over at xs ys old e h =
      let p : length xs ≤ length old = omega arith in
      let q : at + length ys ≤ length (over xs old) = rw over-length h in
      put-room at ys (over xs old) q ∙ over-next at xs ys old e

  -- ---- a loop that writes xs from an offset on, one element a turn: after i turns memory is `splice at (take i xs) old`

  -- at the start
  pub copy_start : (at : ℕ) (xs old : List A) → old ≡ splice at (take 0 xs) old
  copy_start at xs old = sym (splice-nil at old)

  pub copy-length : (at : ℕ) (xs old : List A) (i : ℕ) → i ≤ length xs → at + i ≤ length old
      → length (splice at (take i xs) old) ≡ length old
  copy-length at xs old i h k =
      let p : at + length (take i xs) ≤ length old = simp length-take (omega arith) in
      splice-length at (take i xs) old p

  -- a turn: the element at i is stored at its offset
  pub copy-next : (at : ℕ) (xs old : List A) (i : ℕ) (z : A) {d : List A} {x : A} → i < length xs → at + i < length old
      → d ≡ splice at (take i xs) old → x ≡ get_or xs i z
      → set d (at + i) x ≡ splice at (take (i + 1) xs) old
  copy-next at xs old i z {d} {x} h k e f =
      let l : length (take i xs) ≡ i = simp length-take (omega arith) in
      let p : at + length (take i xs) ≡ at + i = ap (λ (n : ℕ). at + n) l in
      let s : length (splice at (take i xs) old) ≡ length old = copy-length at xs old i (omega arith) (omega arith) in
      let q : at + i < length (splice at (take i xs) old) = omega arith in
      let r : at ≤ length old = omega arith in
      rw (e, f, splice-set (at + i) (get_or xs i z) (splice at (take i xs) old) q, take_snoc xs i z h)
      (splice-next at (at + i) (take i xs) (get_or xs i z ∷ []) old p r)

  -- at the end
  pub copy_done : (at : ℕ) (xs old : List A) (i : ℕ) {d : List A} → length xs ≤ i → d ≡ splice at (take i xs) old → d ≡ splice at xs old
  copy_done at xs old i h e = e ∙ ap (λ (l : List A). splice at l old) (take_all i xs h)

  -- ---- a loop that fills memory with xs from its start, one element a turn: after i turns it is `take i xs ++ drop i old`

  pub fill-length : (xs old : List A) (i : ℕ) → i ≤ length xs → i ≤ length old → length (take i xs ++ drop i old) ≡ length old
  fill-length xs old i h k = simp (length-append, length-take, length-drop) (omega arith)

  -- a turn: the element at i is stored at i
  pub fill-next : (xs old : List A) (i : ℕ) (z : A) {d : List A} {x : A} → i < length xs → i < length old
      → d ≡ take i xs ++ drop i old → x ≡ get_or xs i z
      → set d i x ≡ take (i + 1) xs ++ drop (i + 1) old
  fill-next xs old i z {d} {x} h k e f =
      let l : length (take i xs) ≡ i = simp length-take (omega arith) in
      rw (e, f, drop-cons old i z k, set_at (take i xs) (get_or old i z) (drop (suc i) old) (get_or xs i z) i l, take_snoc xs i z h, add-one)
      (sym (append_snoc (take i xs) (get_or xs i z) (drop (suc i) old)))

  -- at the end
  pub fill_done : (xs old : List A) (i : ℕ) {d : List A} → length xs ≡ i → d ≡ take i xs ++ drop i old → d ≡ over xs old
  fill_done xs old i h e = rw (e, ← h, take-length)
