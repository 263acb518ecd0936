-- Joined, the pieces that the private functions write are the texts of Text: those of a record (`record-pieces`), those after the records
-- (`end-pieces`). Joining two lists of pieces and appending gives their joined append
-- (`joined-join`); the rest is computed, case by case. ps and qs are pieces, i is the index of a record from 0, a its arrival, x its
-- answer. Assumes nothing.
use Prim.Native.Nat.{ℕ}
use mathlib.Core.Path.{◌≡◌, refl, ap, ◌∙◌}
use mathlib.Core.Bool.{Bool, true, false}
use mathlib.Core.List.{List, [], ◌∷◌, ◌++◌, append_assoc}
use lib.Dec.{eqb}
use Rattle.rfc4737.specs.declared.Answer.{Answer}
use Rattle.rfc4737.specs.declared.Arrival.{Arrival}
use Rattle.rfc4737.specs.declared.Counts.{Counts}
use Rattle.writing.specs.Parts.{joined}
use Rattle.table.specs.Text.{row_text, end_text}
use Rattle.table.specs.Private.Pieces.{opening, start_pieces, in_order_pieces, lateness_pieces, offset_pieces, duplicate_pieces, answer_pieces, sent_pieces, count_pieces, run_pieces}

pub joined-join : (ps qs : List (List ℕ)) → joined ps ++ joined qs ≡ joined (ps ++ qs)
joined-join [] qs = refl
joined-join (p ∷ ps) qs = append_assoc p (joined ps) (joined qs) ∙ ap (λ (l : List ℕ). p ++ l) (joined-join ps qs)

-- ---- a record

-- `first` is whether it is the first
row-pieces : (json first : Bool) (i : ℕ) (a : Arrival) (x : Answer) → eqb i 0 ≡ first
    → joined (start_pieces json i a ++ answer_pieces json x) ≡ row_text json i a x
unfolding row_text opening start_pieces answer_pieces in_order_pieces lateness_pieces offset_pieces duplicate_pieces
row-pieces true true i a (Answer.InOrder f) e = rw e
row-pieces true true i a (Answer.Reordered f) e = rw e
row-pieces true true i a (Answer.Duplicate f) e = rw e
row-pieces true false i a (Answer.InOrder f) e = rw e
row-pieces true false i a (Answer.Reordered f) e = rw e
row-pieces true false i a (Answer.Duplicate f) e = rw e
row-pieces false true i a (Answer.InOrder f) e = rw e
row-pieces false true i a (Answer.Reordered f) e = rw e
row-pieces false true i a (Answer.Duplicate f) e = rw e
row-pieces false false i a (Answer.InOrder f) e = rw e
row-pieces false false i a (Answer.Reordered f) e = rw e
row-pieces false false i a (Answer.Duplicate f) e = rw e

pub record-pieces : (json : Bool) (i : ℕ) (a : Arrival) (x : Answer)
    → joined (start_pieces json i a) ++ joined (answer_pieces json x) ≡ row_text json i a x
record-pieces json i a x = joined-join (start_pieces json i a) (answer_pieces json x) ∙ row-pieces json (eqb i 0) i a x refl

-- ---- after the records

after-pieces : (json : Bool) (sent arrivals : ℕ) (c : Counts)
    → joined (sent_pieces json sent arrivals ++ (count_pieces json c ++ run_pieces json c.runs)) ≡ end_text json sent arrivals c
unfolding end_text sent_pieces count_pieces run_pieces
after-pieces true sent arrivals c = refl
after-pieces false sent arrivals c = refl

pub end-pieces : (json : Bool) (sent arrivals : ℕ) (c : Counts)
    → joined (sent_pieces json sent arrivals) ++ (joined (count_pieces json c) ++ joined (run_pieces json c.runs))
    ≡ end_text json sent arrivals c
end-pieces json sent arrivals c =
    let k = sent_pieces json sent arrivals in
    let l = count_pieces json c in
    let m = run_pieces json c.runs in
    ap (λ (x : List ℕ). joined k ++ x) (joined-join l m) ∙ joined-join k (l ++ m) ∙ after-pieces json sent arrivals c
