-- Lists whose elements are all below n. `below-fits` takes the fact from what is known of a slice's elements. The other laws carry it to a
-- list's pieces and from them to the list, one element at a time (`below-cons`, `below-tail`). An empty list needs 0 < n, which any list
-- below n gives (`below-pos`), since an index past the end reads 0. xs and ys are lists, x the first element, k a count. Assumes nothing.
use Prim.Native.Nat.{ℕ, zero, suc, ◌^◌, ◌≤◌, ◌<◌}
use native.Mathlib.Nat.{lt_of_lt_of_le}
use mathlib.Core.List.{List, [], ◌∷◌, ◌++◌}
use lib.ListN.{get_or, take, drop}
use mir.Syntax.{Width}
use mir.Val.{Fits, bits}
use Rattle.octets.specs.Below.{Below}
use Rattle.octets.specs.Memory.{part}

-- what a slice's rule gives of each element, as `c.shared-slice-known.given`, says it of the whole list:
-- `below-fits w8 l h : Octets l`, and at w16, w32, w64 that l is below 2 ^ 16, 2 ^ 32, 2 ^ 64
pub below-fits : (w : Width) (l : List ℕ) → ((i : ℕ) → Fits w (get_or l i 0)) → Below (2 ^ bits w) l
below-fits w l h = λ i. (h i).fits

module _ (n : ℕ) where
  pub below-nil : 0 < n → Below n []
  below-nil p = λ i. p

  pub below-cons : (x : ℕ) (xs : List ℕ) → x < n → Below n xs → Below n (x ∷ xs)
  below-cons x xs p h zero = p
  below-cons x xs p h (suc i) = h i

  pub below-tail : (x : ℕ) (xs : List ℕ) → Below n (x ∷ xs) → Below n xs
  below-tail x xs h = λ i. h (suc i)

  -- the bound is above 0: past the end a list reads 0
  below-pos : (xs : List ℕ) → Below n xs → 0 < n
  below-pos [] h = h 0
  below-pos (x ∷ xs) h = below-pos xs (below-tail x xs h)

  -- a greater bound
  pub below_more : (m : ℕ) (xs : List ℕ) → n ≤ m → Below n xs → Below m xs
  below_more m xs p h = λ i. lt_of_lt_of_le (h i) p

  pub below-append : (xs ys : List ℕ) → Below n xs → Below n ys → Below n (xs ++ ys)
  below-append [] ys h k = k
  below-append (x ∷ xs) ys h k = below-cons x (xs ++ ys) (h 0) (below-append xs ys (below-tail x xs h) k)

  pub below-second : (xs ys : List ℕ) → Below n (xs ++ ys) → Below n ys
  below-second [] ys h = h
  below-second (x ∷ xs) ys h = below-second xs ys (below-tail x (xs ++ ys) h)

  pub below-take : (k : ℕ) (xs : List ℕ) → Below n xs → Below n (take k xs)
  below-take zero xs h = below-nil (below-pos xs h)
  below-take (suc k) [] h = h
  below-take (suc k) (x ∷ xs) h = below-cons x (take k xs) (h 0) (below-take k xs (below-tail x xs h))

  pub below-drop : (k : ℕ) (xs : List ℕ) → Below n xs → Below n (drop k xs)
  below-drop zero xs h = h
  below-drop (suc k) [] h = h
  below-drop (suc k) (x ∷ xs) h = below-drop k xs (below-tail x xs h)

  pub below-part : (at k : ℕ) (xs : List ℕ) → Below n xs → Below n (part at k xs)
  below-part at k xs h = below-take k (drop at xs) (below-drop at xs h)
