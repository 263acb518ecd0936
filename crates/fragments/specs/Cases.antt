-- Tables of small lists of arrivals with their flags, which the contract of the call cites. Assumes nothing.
use Rattle.std.specs.Prelude.{ℕ, ◌≡◌, List, [], ◌∷◌, map}
use Rattle.fragments.specs.declared.Piece.{Piece}
use Rattle.fragments.specs.Order.{flags}
use Rattle.fragments.specs.Usable.{usable}
use Rattle.fragments.specs.Judge.{judge_piece}

-- an arrival at time 0
abbrev pub piece : ℕ → ℕ → ℕ → ℕ → Piece
piece more s offset length = record { number = s; time = 0; length = length; more = more; offset = offset }

-- a fragment with more to come: number, offset and length
abbrev pub mf : ℕ → ℕ → ℕ → Piece
mf s offset length = piece 1 s offset length

-- a fragment with no more to come
abbrev pub lf : ℕ → ℕ → ℕ → Piece
lf s offset length = piece 0 s offset length

-- a whole packet: number and length
abbrev pub wh : ℕ → ℕ → Piece
wh s length = piece 0 s 0 length

-- arrivals, with their flags and which are usable
abbrev pub fragment_cases : List (List Piece × (List ℕ × List ℕ))
fragment_cases =
    -- whole packets, one late and one copy of another length
    ((wh 1 5 ∷ wh 3 5 ∷ wh 2 5 ∷ wh 3 7 ∷ wh 4 0 ∷ []), ((0 ∷ 0 ∷ 1 ∷ 3 ∷ 0 ∷ []), (1 ∷ 1 ∷ 1 ∷ 0 ∷ 1 ∷ [])))
    -- in order, all there
    ∷ ((mf 1 0 8 ∷ mf 1 1 16 ∷ lf 1 3 5 ∷ wh 2 9 ∷ []), ((0 ∷ 0 ∷ 0 ∷ 0 ∷ []), (1 ∷ 1 ∷ 1 ∷ 1 ∷ [])))
    -- a middle fragment is late (case 3), then the rest
    ∷ ((mf 1 0 8 ∷ mf 1 2 8 ∷ mf 1 1 8 ∷ lf 1 3 5 ∷ []), ((0 ∷ 0 ∷ 1 ∷ 0 ∷ []), (1 ∷ 1 ∷ 1 ∷ 1 ∷ [])))
    -- a hole: in order, and not usable
    ∷ ((mf 1 0 8 ∷ lf 1 2 8 ∷ wh 2 3 ∷ []), ((0 ∷ 0 ∷ 0 ∷ []), (0 ∷ 0 ∷ 1 ∷ [])))
    -- no last fragment
    ∷ ((mf 1 0 8 ∷ mf 1 1 8 ∷ wh 2 3 ∷ []), ((0 ∷ 0 ∷ 0 ∷ []), (0 ∷ 0 ∷ 1 ∷ [])))
    -- the last fragment first: its fellows are late (case 1)
    ∷ ((lf 1 1 8 ∷ mf 1 0 8 ∷ []), ((0 ∷ 1 ∷ []), (1 ∷ 1 ∷ [])))
    -- an older packet while a newer one is open (case 2)
    ∷ ((mf 3 0 8 ∷ wh 2 9 ∷ lf 3 1 2 ∷ []), ((0 ∷ 1 ∷ 0 ∷ []), (1 ∷ 1 ∷ 1 ∷ [])))
    -- case 3 applies to a last fragment and to a whole packet of the open one
    ∷ ((mf 1 0 8 ∷ wh 1 4 ∷ []), ((0 ∷ 1 ∷ []), (1 ∷ 1 ∷ [])))
    ∷ ((mf 1 2 8 ∷ lf 1 1 8 ∷ []), ((0 ∷ 1 ∷ []), (0 ∷ 0 ∷ [])))
    -- copies: of a fragment by the triple, whatever its flag; of a whole by a fragment of equal length; not transitive
    ∷ ((mf 1 0 8 ∷ lf 1 0 8 ∷ []), ((0 ∷ 3 ∷ []), (1 ∷ 0 ∷ [])))
    ∷ ((wh 1 10 ∷ wh 1 24 ∷ mf 1 0 24 ∷ mf 1 0 16 ∷ []), ((0 ∷ 3 ∷ 3 ∷ 1 ∷ []), (1 ∷ 0 ∷ 0 ∷ 1 ∷ [])))
    -- overlapping fragments cover
    ∷ ((mf 1 0 16 ∷ mf 1 1 16 ∷ lf 1 2 20 ∷ []), ((0 ∷ 0 ∷ 0 ∷ []), (1 ∷ 1 ∷ 1 ∷ [])))
    ∷ []

-- one arrival, with its refusal for K = 2 and the reference 2,000: 6 before 17 before 7
abbrev pub refused_table : List (Piece × ℕ)
refused_table =
    (lf 3 1 0, 6) ∷ (lf 1 1 0, 17) ∷ (mf 1 0 9, 17) ∷ (lf 1 8191 8, 17) ∷ (lf 1 8191 7, 7) ∷ (wh 1 0, 7) ∷ []

-- the definitions give the flags, the usable arrivals and the refusals of the tables
pub record FlaggedAsGiven : Type 0 where
  -- the lists
  pub marked : map (λ (c : List Piece × (List ℕ × List ℕ)). (flags c.0, usable c.0)) fragment_cases
      ≡ map (λ (c : List Piece × (List ℕ × List ℕ)). c.1) fragment_cases
  -- the arrivals, after a greatest time of 2,000, K being 2
  pub refused : map (λ (c : Piece × ℕ). judge_piece 2 2000 c.0) refused_table ≡ map (λ (c : Piece × ℕ). c.1) refused_table
