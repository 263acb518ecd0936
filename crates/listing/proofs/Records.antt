-- The lines of records l with answers m under one record more, x with y: by induction on both, which have the same length, counted from r.
-- Assumes nothing.
use Prim.Native.Nat.{ℕ, suc, ◌+◌}
use native.Mathlib.Nat.{add-zero}
use native.Mathlib.Omega.{arith}
use mathlib.Core.Path.{◌≡◌, sym}
use mathlib.Core.List.{List, [], ◌∷◌, ◌++◌, append-nil, append_assoc}
use lib.ListN.{length}
use Rattle.rfc4737.specs.declared.Arrival.{Arrival}
use Rattle.rfc4737.specs.declared.Answer.{Answer}
use Rattle.listing.specs.Lines.{record_line, record_lines_from, record_lines}

-- one record more, where they are counted from r
lines_from : (r : ℕ) (l : List Arrival) (m : List Answer) (x : Arrival) (y : Answer) → length m ≡ length l
    → record_lines_from r (l ++ (x ∷ [])) (m ++ (y ∷ [])) ≡ record_lines_from r l m ++ record_line (r + length l) x.number y
unfolding record_lines_from
lines_from r [] [] x y e = rw (append-nil, add-zero)
lines_from r [] (b ∷ m) x y e = absurd (omega arith)
lines_from r (a ∷ l) [] x y e = absurd (omega arith)
lines_from r (a ∷ l) (b ∷ m) x y e =
    let p : length m ≡ length l = omega arith in
    let q : r + 1 + length l ≡ r + suc (length l) = omega arith in
    rw (lines_from (r + 1) l m x y p, q) (sym (append_assoc (record_line r a.number b) (record_lines_from (r + 1) l m) _))

-- one record more: the line of its record, number and answer
pub lines_more : (l : List Arrival) (m : List Answer) (x : Arrival) (y : Answer) → length m ≡ length l
    → record_lines (l ++ (x ∷ [])) (m ++ (y ∷ [])) ≡ record_lines l m ++ record_line (length l + 1) x.number y
unfolding record_lines
lines_more l m x y e =
    let q : 1 + length l ≡ length l + 1 = omega arith in
    rw (← q) (lines_from 1 l m x y e)
