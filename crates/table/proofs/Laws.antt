-- Laws of the text of a record: the first number of a row is the case of the answer (`in-order-row`, `duplicate-row`, `reordered-row`).
-- Assumes nothing.
use Prim.Native.Nat.{ℕ, ◌≤◌}
use native.Mathlib.Omega.{arith}
use mathlib.Core.Path.{◌≡◌, sym, ap, ◌∙◌}
use mathlib.Core.Bool.{Bool}
use mathlib.Core.List.{List, ◌++◌}
use lib.ListN.{get_or}
use Rattle.rfc4737.specs.declared.Answer.{Answer}
use Rattle.rfc4737.specs.declared.ReorderedFigures.{ReorderedFigures}
use Rattle.rfc4737.specs.declared.LateTime.{LateTime}
use Rattle.rfc4737.specs.declared.LateTime.TheVariants.{After, Before}
use Rattle.rfc4737.specs.Numbering.{reordered_number, answer_number}
use Rattle.metrics.specs.Rows.{row_of}
use Rattle.writing.specs.Parts.{joined}
use Rattle.table.specs.Private.Pieces.{in_order_pieces, duplicate_pieces, answer_pieces}

-- ---- rows

-- the number of the case is at 0
case-of : {row : List ℕ} {n : ℕ} (a : Answer) → row ≡ row_of a → get_or row 0 0 ≡ n → answer_number a ≡ n
unfolding row_of
case-of (Answer.InOrder d) h e = sym (ap (λ (l : List ℕ). get_or l 0 0) h) ∙ e
case-of (Answer.Reordered d) h e = sym (ap (λ (l : List ℕ). get_or l 0 0) h) ∙ e
case-of (Answer.Duplicate d) h e = sym (ap (λ (l : List ℕ). get_or l 0 0) h) ∙ e

-- the number of a reordered packet is 1 or 2
reordered-number : (t : LateTime) → (1 ≤ reordered_number t) × (reordered_number t ≤ 2)
reordered-number (After t) = (omega arith, omega arith)
reordered-number (Before t) = (omega arith, omega arith)

pub in-order-row : (json : Bool) (row : List ℕ) (a : Answer) → row ≡ row_of a → get_or row 0 0 ≡ 0
    → joined (in_order_pieces json (get_or row 1 0) (get_or row 2 0)) ≡ joined (answer_pieces json a)
unfolding answer_pieces row_of
in-order-row json row (Answer.InOrder d) h e = ap (λ (l : List ℕ). joined (in_order_pieces json (get_or l 1 0) (get_or l 2 0))) h
in-order-row json row (Answer.Reordered d) h e = absurd (omega (arith, reordered-number d.late, case-of (Answer.Reordered d) h e))
in-order-row json row (Answer.Duplicate d) h e = absurd (omega (arith, case-of (Answer.Duplicate d) h e))

pub duplicate-row : (json : Bool) (row : List ℕ) (a : Answer) → row ≡ row_of a → get_or row 0 0 ≡ 3
    → joined (duplicate_pieces json (get_or row 7 0)) ≡ joined (answer_pieces json a)
unfolding answer_pieces row_of
duplicate-row json row (Answer.InOrder d) h e = absurd (omega (arith, case-of (Answer.InOrder d) h e))
duplicate-row json row (Answer.Reordered d) h e = absurd (omega (arith, reordered-number d.late, case-of (Answer.Reordered d) h e))
duplicate-row json row (Answer.Duplicate d) h e = ap (λ (l : List ℕ). joined (duplicate_pieces json (get_or l 7 0))) h

-- a row that is neither an in-order packet's nor a duplicate's is a reordered packet's
pub reordered-row : (json : Bool) (row old new : List ℕ) (a : Answer) → row ≡ row_of a
    → (get_or row 0 0 ≡ 0 → ⊥) → (get_or row 0 0 ≡ 3 → ⊥)
    → ((f : ReorderedFigures) → row ≡ row_of (Answer.Reordered f) → new ≡ old ++ joined (answer_pieces json (Answer.Reordered f)))
    → new ≡ old ++ joined (answer_pieces json a)
unfolding row_of
reordered-row json row old new (Answer.InOrder d) h e g w = absurd (e (ap (λ (l : List ℕ). get_or l 0 0) h))
reordered-row json row old new (Answer.Reordered d) h e g w = w d h
reordered-row json row old new (Answer.Duplicate d) h e g w = absurd (g (ap (λ (l : List ℕ). get_or l 0 0) h))
