-- Copies by marks. An arrival is a copy exactly if an earlier arrival has its number, offset and length, or both are whole packets with
-- the same number (`copy-split`). The mark of the arrival tells the first, the table of whole packets seen the second (`copy-here`). l
-- are arrivals, a and b single ones, p and q are tests. Assumes nothing.
use Prim.Native.Nat.{ℕ}
use mathlib.Core.Bool.{Bool, true, false, cond, not, ◌&&◌, ◌||◌}
use mathlib.Core.List.{List, [], ◌∷◌}
use mathlib.Core.Path.{◌≡◌, refl, sym, ap, ap₂, ◌∙◌}
use lib.Dec.{eqb}
use Rattle.fragments.specs.declared.Piece.{Piece}
use Rattle.fragments.specs.Pieces.{any, is_whole, copies, is_copy}
use Rattle.fragments.specs.Places.{same_key, whole_of}

-- one test or the other
any-or : (p q : Piece → Bool) (l : List Piece) → any (λ (b : Piece). p b || q b) l ≡ (any p l || any q l)
unfolding any
any-or p q [] = refl
any-or p q (b ∷ l) = rw (any-or p q l) (go (p b) (q b) (any p l) (any q l))
  where
    go : (x y u v : Bool) → ((x || y) || (u || v)) ≡ ((x || u) || (y || v))
    go true y u v = refl
    go false true true v = refl
    go false true false v = refl
    go false false u v = refl

-- a test that holds only where w does
any-and : (w : Bool) (q : Piece → Bool) (l : List Piece) → any (λ (b : Piece). w && q b) l ≡ (w && any q l)
unfolding any
any-and true q [] = refl
any-and false q [] = refl
any-and true q (b ∷ l) = rw (any-and true q l)
any-and false q (b ∷ l) = any-and false q l

-- a copy, by key or as a whole packet
one_split : (a b : Piece) → copies a b ≡ (same_key a b || (is_whole a && whole_of a.number b))
unfolding copies same_key whole_of
one_split a b = go (eqb b.number a.number) (is_whole a) (is_whole b) (eqb b.offset a.offset && eqb b.length a.length)
  where
    go : (n w v k : Bool) → (n && ((w && v) || k)) ≡ ((n && k) || (w && (n && v)))
    go false true v k = refl
    go false false v k = refl
    go true true true true = refl
    go true true true false = refl
    go true true false true = refl
    go true true false false = refl
    go true false true true = refl
    go true false true false = refl
    go true false false true = refl
    go true false false false = refl

copy-split : (a : Piece) (l : List Piece) → is_copy l a ≡ (any (same_key a) l || (is_whole a && any (whole_of a.number) l))
unfolding is_copy
copy-split a l =
    ap (λ (p : Piece → Bool). any p l) (λ i b. one_split a b i)
    ∙ any-or (same_key a) (λ (b : Piece). is_whole a && whole_of a.number b) l
    ∙ ap (λ (t : Bool). any (same_key a) l || t) (any-and (is_whole a) (whole_of a.number) l)

-- what the function finds of the mark and of what was seen
pub copy-here : (a : Piece) (l : List Piece) (r : Bool) (mark : ℕ) (seen : Bool) → r ≡ (not (eqb mark 0) || (is_whole a && seen))
    → mark ≡ cond (any (same_key a) l) 1 0 → seen ≡ any (whole_of a.number) l → r ≡ is_copy l a
copy-here a l r mark seen e f g =
    e ∙ ap₂ (λ (x : ℕ) (y : Bool). not (eqb x 0) || (is_whole a && y)) f g ∙ go (any (same_key a) l) (any (whole_of a.number) l)
    ∙ sym (copy-split a l)
  where
    go : (s w : Bool) → (not (eqb (cond s 1 0) 0) || (is_whole a && w)) ≡ (s || (is_whole a && w))
    go true w = refl
    go false w = refl
