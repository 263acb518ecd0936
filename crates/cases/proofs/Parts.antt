-- The parts of a text t between separators s. A text that is not empty is its first part, up to the first separator, and then the parts
-- of what stands after that (`split`, by induction on the text). Assumes nothing.
use Rattle.std.proofs.Common.{◌≡◌, ℕ, suc, ◌+◌, ◌-◌, ◌<◌, ◌≤◌, Bool, true, false, cond, not, eqb, ltb, List, [], ◌∷◌, length, get_or, take, drop, refl, sym, ap, subst, ◌∙◌, arith, one-add, add-one, length-drop, drop_of_length-le}
use Rattle.std.specs.Prelude.{Option, Some, None, position, unwrap_or, slice_get}
use Rattle.std.specs.List.{position_or_len}
use Rattle.std.specs.Option.{option_map}
use Rattle.std.proofs.lemmas.Bool.{eqb-true, eq-eqb, ltb-true, ltb-false}
use Rattle.std.proofs.lemmas.List.Sums.{prefix_len-le-length}
use Rattle.std.proofs.lemmas.Option.{unwrap_or-slice_get}
use Rattle.std.proofs.Math.Seq.{take-length}
use lib.ListN.{get_or-map}
use Rattle.decimal.specs.Decimal.{decimal_value}
use Rattle.decimal.specs.Reading.{digit_count}
use Rattle.cases.specs.Text.{with_octet, cut_at, part_number, numbers_in}

-- where the first separator stands, or the length
abbrev end_of : ℕ → List ℕ → ℕ
end_of s t = position_or_len (λ (x : ℕ). eqb x s) t

-- with one octet more before a text
split-more : (s o : ℕ) (t : List ℕ) (b : Bool)
    → (0 < length t → cut_at s t ≡ take (end_of s t) t ∷ cut_at s (drop (suc (end_of s t)) t))
    → with_octet b o (cut_at s t)
    ≡ take (cond (not b) (suc (end_of s t)) 0) (o ∷ t)
    ∷ cut_at s (drop (suc (cond (not b) (suc (end_of s t)) 0)) (o ∷ t))
unfolding with_octet cut_at
split-more s o t true so = refl
split-more s o [] false so = refl
split-more s o (q ∷ t) false so = ap (with_octet false o) (so (omega arith))

-- a text that is not empty: its first part, and the parts of what stands after the separator
split : (s : ℕ) (t : List ℕ) → 0 < length t → cut_at s t ≡ take (end_of s t) t ∷ cut_at s (drop (suc (end_of s t)) t)
unfolding cut_at
split s [] h = absurd (omega arith)
split s (o ∷ t) h = rw one-add (split-more s o t (eqb o s) (split s t))

-- a text that is not empty
filled : (t : List ℕ) → eqb (length t) 0 ≡ false → 0 < length t
filled [] e = let z = eq-eqb 0 0 refl in absurd (cc)
filled (o ∷ t) e = omega arith

-- a separator is found, or none
found : (b : Bool) (k n : ℕ) → Some n ≡ cond b (Some k) None → (b ≡ true) × (k ≡ n)
found true k n e = (refl, cc)
found false k n e = absurd cc

none_found : (b : Bool) (k : ℕ) → None ≡ cond b (Some k) None → b ≡ false
none_found true k e = absurd cc
none_found false k e = refl

-- up to the first separator, and after it
pub split-some : (s : ℕ) (t : List ℕ) (n : ℕ) → Some n ≡ position (λ (x : ℕ). eqb x s) t
    → cut_at s t ≡ take n t ∷ cut_at s (take (length t - (n + 1)) (drop (n + 1) t))
split-some s t n e =
    let f = found (ltb (end_of s t) (length t)) (end_of s t) n e in
    let h = ltb-true _ _ f.0 in
    let w = split s t (omega arith) in
    let at_n = subst (λ (k : ℕ). cut_at s t ≡ take k t ∷ cut_at s (drop (suc k) t)) f.1 w in
    let rest = simp length-drop at (take-length (drop (n + 1) t)) in
    rw rest (rw add-one at_n)

-- no separator
pub split-none : (s : ℕ) (t : List ℕ) → eqb (length t) 0 ≡ false → None ≡ position (λ (x : ℕ). eqb x s) t → cut_at s t ≡ t ∷ cut_at s []
split-none s t h e =
    let f = ltb-false _ _ (none_found (ltb (end_of s t) (length t)) (end_of s t) e) in
    let most = prefix_len-le-length (λ (x : ℕ). not (eqb x s)) t in
    let whole : end_of s t ≡ length t = omega arith in
    let w = split s t (filled t h) in
    let all = subst (λ (k : ℕ). cut_at s t ≡ take k t ∷ cut_at s (drop (suc k) t)) whole w in
    rw (take-length t, drop_of_length-le t {i = suc (length t)} (omega arith)) at all

-- an empty text has none
pub split-empty : (s : ℕ) (t : List ℕ) → true ≡ eqb (length t) 0 → cut_at s t ≡ []
unfolding cut_at
split-empty s [] e = refl
split-empty s (o ∷ t) e = let z = eqb-true (length (o ∷ t)) 0 (sym e) in absurd (omega arith)

-- a part or none, read by its index
pub part_read : {B : Type 0} (view : B → List ℕ) (r : Option B) (d : B) (l : List (List ℕ)) (n : ℕ)
    → option_map view r ≡ slice_get l n → view (unwrap_or r d) ≡ get_or l n (view d)
part_read view None d l n e = ap (λ (o : Option (List ℕ)). unwrap_or o (view d)) e ∙ unwrap_or-slice_get l n (view d)
part_read view (Some x) d l n e = ap (λ (o : Option (List ℕ)). unwrap_or o (view d)) e ∙ unwrap_or-slice_get l n (view d)

-- the number of a part is the number at its index; past the last part it is 0
pub number-found : (t : List ℕ) (n : ℕ) → part_number (get_or (cut_at 32 t) n []) ≡ get_or (numbers_in t) n 0
unfolding digit_count decimal_value
number-found t n = sym (get_or-map part_number (cut_at 32 t) n [])

-- a text has no more parts than octets
more_parts : (b : Bool) (o : ℕ) (ps : List (List ℕ)) → length (with_octet b o ps) ≤ suc (length ps)
unfolding with_octet
more_parts true o ps = omega arith
more_parts false o [] = omega arith
more_parts false o (p ∷ ps) = omega arith

pub count_le : (s : ℕ) (t : List ℕ) → length (cut_at s t) ≤ length t
unfolding cut_at
count_le s [] = omega arith
count_le s (o ∷ t) = let m = more_parts (eqb o s) o (cut_at s t) in let i = count_le s t in omega arith
