-- Refusals of arrivals that may be fragments. Assumes nothing.
use Rattle.std.specs.Prelude.{ℕ, ◌%◌, Bool, not, ◌&&◌, ◌||◌, List, [], ◌∷◌, map, ltb, eqb}
use Rattle.rfc4737.specs.Arrivals.{each}
use Rattle.rfc4737.specs.Times.{too_early, greatest_time}
use Rattle.rfc4737.specs.Refusals.{outside, refusal_if, first_refusal, number_outside, time_back, fragment_unfit}
use Rattle.fragments.specs.declared.Piece.{Piece}
use Rattle.fragments.specs.Pieces.{arrival_of, is_last, is_whole, piece_end}

-- the greatest end of a fragment
abbrev pub end_most : ℕ
end_most = 65535

-- a fragment is unfit if its length is 0, if more are to come and its length is no multiple of 8, or if its end is over 65,535
unfoldable pub is_unfit : Piece → Bool
is_unfit a =
    not (is_whole a) && (eqb a.length 0 || (not (is_last a) && not (eqb (a.length % 8) 0) || ltb end_most (piece_end a)))

-- the refusal of one arrival, from K and the reference for its time: 6, 17, 7
unfoldable pub judge_piece : ℕ → ℕ → Piece → ℕ
judge_piece k reference a =
    first_refusal
    (refusal_if (outside 1 k a.number) number_outside
    ∷ refusal_if (is_unfit a) fragment_unfit
    ∷ refusal_if (too_early reference a.time) time_back
    ∷ [])

-- the refusal of one arrival after the earlier ones, whose greatest time is the reference
unfoldable pub judge_after : ℕ → List Piece → Piece → ℕ
judge_after k earlier a = judge_piece k (greatest_time (map arrival_of earlier)) a

-- the refusal of the first arrival that is refused
unfoldable pub judge_pieces : ℕ → List Piece → ℕ
judge_pieces k l = first_refusal (each (judge_after k) l)
