-- Big-endian numbers. The value is a left fold, so the next octet at the end is a step of it (`value-snoc`), and what a fold starts from
-- is multiplied by 256 for each octet after it (`value-append`). This gives the bound, by induction from the front. The octets are made
-- from the last, by induction on the width. Reading undoes writing, by induction on the width: the last octet is v % 256, and those before
-- it read as v / 256 cut to one octet less, which is v cut to the width (`value-octets-mod`), so v itself if it fits (`value-octets`).
-- Writing undoes reading, by induction on the width too: of the value the last octet is the remainder, and the value of those before it
-- the quotient (`octets-value`). Here os are octets and o is one, v a number, w a width; at is an offset, n a count of octets, l and old
-- memory. Assumes nothing.
use Prim.Native.Nat.{ℕ, zero, suc, ◌+◌, ◌*◌, ◌/◌, ◌%◌, ◌^◌, ◌≤◌, ◌<◌}
use native.Mathlib.Nat.{le_trans, lt_of_lt_of_le, mod-one, mod-eq_of_lt, div-div-eq-div-mul, div-one, pow-zero, pow-suc, pow-succ', pow-le-pow_right, one-le-pow, mul-one, add-mul, mul_assoc, add_assoc, add-zero, zero-mul, zero-add, add-suc}
use native.Mathlib.Numerals.{add-one}
use native.Mathlib.Omega.{arith}
use mathlib.Core.Path.{◌≡◌, refl, sym, ap, ◌∙◌, subst}
use mathlib.Core.List.{List, [], ◌∷◌, ◌++◌, append_assoc, append-nil, foldl, foldl-append}
use lib.Arith.{digits_lt, digits_div, digits_mod, mod-mul}
use lib.ListN.{length, get_or, take, length-append}
use lib.Seq.{take-suc, take-length, length-take-le}
use Rattle.octets.specs.Below.{Octets}
use Rattle.octets.specs.BigEndian.{be_value, be_octets}
use Rattle.octets.specs.Memory.{part, put}
use Rattle.octets.proofs.Below.{below-nil, below-cons, below-append, below-tail, below-take, below-part}
use Rattle.octets.proofs.Memory.{part-most, part-snoc, put-part}

-- ---- the value

pub value-nil : be_value [] ≡ 0
unfolding be_value
value-nil = refl

value-one : (o : ℕ) → be_value (o ∷ []) ≡ o
unfolding be_value
value-one o = simp (zero-mul, zero-add)

-- with one more octet at the end
value-snoc : (os : List ℕ) (o : ℕ) → be_value (os ++ (o ∷ [])) ≡ be_value os * 256 + o
unfolding be_value
value-snoc os o = foldl-append (λ (v o : ℕ). v * 256 + o) 0 os (o ∷ [])

-- a fold that starts at v: v, with as many octets after it
value-from : (v : ℕ) (os : List ℕ) → foldl (λ (v o : ℕ). v * 256 + o) v os ≡ v * 256 ^ length os + foldl (λ (v o : ℕ). v * 256 + o) 0 os
value-from v [] = simp (mul-one, add-zero)
value-from v (o ∷ os) =
    rw (value-from (v * 256 + o) os, value-from (0 + o) os)
    (simp (pow-succ', add-mul, mul_assoc, zero-add, add_assoc))

pub value-append : (a b : List ℕ) → be_value (a ++ b) ≡ be_value a * 256 ^ length b + be_value b
unfolding be_value
value-append a b = foldl-append (λ (v o : ℕ). v * 256 + o) 0 a b ∙ value-from (be_value a) b

-- with one more octet in front
value-cons : (o : ℕ) (os : List ℕ) → be_value (o ∷ os) ≡ o * 256 ^ length os + be_value os
value-cons o os = value-append (o ∷ []) os ∙ ap (λ (n : ℕ). n * 256 ^ length os + be_value os) (value-one o)

-- below 256 to the number of octets
value-below : (os : List ℕ) → Octets os → be_value os < 256 ^ length os
unfolding be_value
value-below [] h = omega arith
value-below (o ∷ os) h = rw (value-cons, pow-succ') (digits_lt (h 0) (value-below os (below-tail 256 o os h)))

-- what w octets hold: `value-fits 2`, `4` and `8` give the bounds 65536, 2 ^ 32 and 2 ^ 64
pub value-fits : (w : ℕ) (os : List ℕ) → Octets os → length os ≤ w → be_value os < 256 ^ w
value-fits w os h p = lt_of_lt_of_le (value-below os h) (pow-le-pow_right (omega arith) p)

-- the same of a part
pub value-part : (w at n : ℕ) (l : List ℕ) → Octets l → n ≤ w → be_value (part at n l) < 256 ^ w
value-part w at n l h p = value-fits w (part at n l) (below-part 256 at n l h) (le_trans (part-most at n l) p)

-- of a part with one more octet
pub value-part-snoc : (at n : ℕ) (l : List ℕ) → at + n < length l
    → be_value (part at (n + 1) l) ≡ be_value (part at n l) * 256 + get_or l (at + n) 0
value-part-snoc at n l h = ap be_value (part-snoc at n l 0 h) ∙ value-snoc (part at n l) (get_or l (at + n) 0)

-- ---- the octets

pub octets-length : (w v : ℕ) → length (be_octets w v) ≡ w
unfolding be_octets
octets-length zero v = refl
octets-length (suc w) v =
    length-append (be_octets w (v / 256)) (v % 256 ∷ []) ∙ ap (λ (k : ℕ). k + 1) (octets-length w (v / 256)) ∙ add-one w

octets-below : (w v : ℕ) → Octets (be_octets w v)
unfolding be_octets
octets-below zero v = below-nil 256 (omega arith)
octets-below (suc w) v =
    below-append 256 (be_octets w (v / 256)) (v % 256 ∷ []) (octets-below w (v / 256))
    (below-cons 256 (v % 256) [] (omega arith) (below-nil 256 (omega arith)))

-- with one more octet at the end
pub octets-snoc : (w v : ℕ) → be_octets (w + 1) v ≡ be_octets w (v / 256) ++ (v % 256 ∷ [])
unfolding be_octets
octets-snoc w v = rw add-one

-- a + b octets are the first a and the last b
pub octets-append : (a b v : ℕ) → be_octets (a + b) v ≡ be_octets a (v / 256 ^ b) ++ be_octets b v
unfolding be_octets
octets-append a zero v = rw (add-zero, pow-zero, div-one, append-nil)
octets-append a (suc b) v =
    rw (add-suc, pow-succ', ← div-div-eq-div-mul, octets-append a b (v / 256), append_assoc)

-- ---- reading undoes writing, and writing reading

-- what was written reads back as what the width holds of it
value-octets-mod : (w v : ℕ) → be_value (be_octets w v) ≡ v % 256 ^ w
unfolding be_octets
value-octets-mod zero v = value-nil ∙ sym (mod-one v)
value-octets-mod (suc w) v =
    value-snoc (be_octets w (v / 256)) (v % 256)
    ∙ ap (λ (n : ℕ). n * 256 + v % 256) (value-octets-mod w (v / 256))
    ∙ sym (mod-mul v (one-le-pow w 256 (omega arith)) (omega arith))
    ∙ ap (λ (n : ℕ). v % n) (sym (pow-suc 256 w))

-- a number that fits reads back as itself
pub value-octets : (w v : ℕ) → v < 256 ^ w → be_value (be_octets w v) ≡ v
value-octets w v h = value-octets-mod w v ∙ mod-eq_of_lt h

-- one octet more, where those before it are themselves
octets-value-snoc : (w : ℕ) (os : List ℕ) (o : ℕ) → o < 256 → be_octets w (be_value os) ≡ os
    → be_octets (suc w) (be_value (os ++ (o ∷ []))) ≡ os ++ (o ∷ [])
unfolding be_octets
octets-value-snoc w os o h e =
    rw (value-snoc, digits_div (be_value os) h, digits_mod (be_value os) h) (ap (λ (l : List ℕ). l ++ (o ∷ [])) e)

-- octets written back as their value, at a width that is their number, are themselves
octets-value-at : (w : ℕ) (os : List ℕ) → length os ≡ w → Octets os → be_octets w (be_value os) ≡ os
unfolding be_octets
octets-value-at zero [] e h = refl
octets-value-at zero (o ∷ os) e h = absurd (omega arith)
octets-value-at (suc w) os e h =
    let n : w < length os = omega arith in
    let s : take w os ++ (get_or os w 0 ∷ []) ≡ os = sym (take-suc os w 0 n) ∙ ap (λ (k : ℕ). take k os) (sym e) ∙ take-length os in
    subst (λ (l : List ℕ). be_octets (suc w) (be_value l) ≡ l) s
    (octets-value-snoc w (take w os) (get_or os w 0) (h w) (octets-value-at w (take w os) (length-take-le w os (omega arith))
    (below-take 256 w os h)))

-- the same at their length
pub octets-value : (os : List ℕ) → Octets os → be_octets (length os) (be_value os) ≡ os
octets-value os h = octets-value-at (length os) os refl h

-- ---- in memory

-- a number that fits, put where there is room, is read back at its offset
pub put-value : (at w v : ℕ) (old : List ℕ) → v < 256 ^ w → at + w ≤ length old → be_value (part at w (put at (be_octets w v) old)) ≡ v
put-value at w v old h p = ap be_value (put-part at w (be_octets w v) old (octets-length w v) p) ∙ value-octets w v h
