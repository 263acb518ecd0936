-- Arrivals judged in turn. The element of `each` at i is its function of the arrivals before and the arrival at i (`each_at`). So the
-- loop finds at i the refusal of a by the reference (`refusal-here`), which is the greatest time before it (past). If no refusal applies,
-- no arrival is refused, so every number is from 1 to k (`numbered`). k is K, l are the arrivals, a is the arrival at i, r a refusal or a
-- reference. Assumes nothing.
use Prim.Native.Nat.{ℕ, zero, suc, ◌+◌, ◌≤◌, ◌<◌}
use native.Mathlib.Omega.{arith}
use mathlib.Core.Path.{◌≡◌, refl, sym, ap, ◌∙◌}
use mathlib.Core.List.{List, [], ◌∷◌, ◌++◌, map, append-nil, append_assoc, map-append}
use lib.ListN.{length, get_or, drop, take}
use Rattle.rfc4737.specs.Arrivals.{each, each_after}
use Rattle.rfc4737.specs.Refusals.{outside, refusal_if, first_refusal, number_outside, time_back, fragment_unfit}
use Rattle.rfc4737.specs.Times.{too_early, next_reference, greatest_time}
use Rattle.rfc4737.proofs.Arrivals.{take_more}
use Rattle.rfc4737.proofs.Due.{first-none, each_none, limit-none}
use Rattle.rfc4737.proofs.Times.{greatest-more}
use Rattle.fragments.specs.declared.Piece.{Piece}
use Rattle.fragments.specs.Pieces.{arrival_of}
use Rattle.fragments.specs.Judge.{is_unfit, judge_piece, judge_after, judge_pieces}
use Rattle.fragments.specs.Private.{no_piece}

-- what `each_after` gives at a place: of the arrivals `before` and those of l up to there, and the arrival there
at_after : (f : List Piece → Piece → ℕ) (before l : List Piece) (i : ℕ) → i < length l
    → get_or (each_after f before l) i 0 ≡ f (before ++ take i l) (get_or l i no_piece)
unfolding each_after
at_after f before [] i h = absurd (omega arith)
at_after f before (a ∷ l) zero h = ap (λ (m : List Piece). f m a) (sym (append-nil before))
at_after f before (a ∷ l) (suc i) h =
    at_after f (before ++ (a ∷ [])) l i (omega arith) ∙ ap (λ (m : List Piece). f m (get_or l i no_piece))
    (append_assoc before (a ∷ []) (take i l))

pub each_at : (f : List Piece → Piece → ℕ) (l : List Piece) (i : ℕ) → i < length l → get_or (each f l) i 0 ≡ f (take i l) (get_or l i no_piece)
unfolding each
each_at f l i h = at_after f [] l i h

-- ---- a loop over a list l of arrivals, `a` the one at i: the reference is the greatest time of those before it

module _ (l : List Piece) (reference i : ℕ) (a : Piece) (h : i < length l) (here : a ≡ get_or l i no_piece)
    (past : reference ≡ greatest_time (map arrival_of (take i l))) where
  -- its refusal
  pub refusal-here : (k r : ℕ) → r ≡ judge_piece k reference a → r ≡ get_or (each (judge_after k) l) i 0
  unfolding judge_after
  refusal-here k r e =
      e ∙ ap (λ (t : ℕ). judge_piece k t a) past
      ∙ ap (judge_piece k (greatest_time (map arrival_of (take i l)))) here
      ∙ sym (each_at (judge_after k) l i h)

  -- the reference for the next
  pub past_next : (next : ℕ) → next ≡ next_reference reference a.time → next ≡ greatest_time (map arrival_of (take (i + 1) l))
  past_next next e =
      e ∙ ap (λ (t : ℕ). next_reference t a.time) past
      ∙ sym (greatest-more (map arrival_of (take i l)) (arrival_of a))
      ∙ ap greatest_time (sym (map-append arrival_of (take i l) (a ∷ [])) ∙ ap (λ (b : Piece). map arrival_of (take i l ++ (b ∷ []))) here
      ∙ ap (map arrival_of) (sym (take_more no_piece l i h)))

-- before the first
pub turn-start : (k : ℕ) (l : List Piece) → (0 ≡ greatest_time (map arrival_of (take 0 l)))
    × (judge_pieces k l ≡ first_refusal (drop 0 (each (judge_after k) l)))
unfolding judge_pieces greatest_time
turn-start k l = (refl, refl)

-- ---- arrivals of which none is refused

-- an arrival that is not refused
one_number : (k r : ℕ) (a : Piece) → judge_piece k r a ≡ 0 → (1 ≤ a.number) × (a.number ≤ k)
unfolding judge_piece
one_number k r a e =
    let p =
    first-none (refusal_if (outside 1 k a.number) number_outside)
    (refusal_if (is_unfit a) fragment_unfit ∷ refusal_if (too_early r a.time) time_back ∷ []) e in
    limit-none 1 k a.number number_outside (omega arith) p.0

-- every number lies in 1 to k
pub numbered : (k : ℕ) (l : List Piece) → judge_pieces k l ≡ 0 → (j : ℕ) → j < length l
    → (1 ≤ (get_or l j no_piece).number) × ((get_or l j no_piece).number ≤ k)
unfolding judge_pieces judge_after
numbered k l e j h =
    one_number k (greatest_time (map arrival_of (take j l))) (get_or l j no_piece)
    (sym (each_at (judge_after k) l j h) ∙ each_none (each (judge_after k) l) e j)
