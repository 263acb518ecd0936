-- The rules about arrival times. Times may be equal, and may go back a little. Assumes nothing.
use Rattle.std.specs.Prelude.{ℕ, ◌-◌, Bool, false, cond, ◌||◌, ltb}
use mathlib.Core.List.{List, [], ◌∷◌, foldl}
use Rattle.rfc4737.specs.declared.Arrival.{Arrival}
use Rattle.rfc4737.specs.declared.LateTime.{LateTime}
use Rattle.rfc4737.specs.declared.LateTime.TheVariants.{After, Before}

-- how far below the greatest earlier time an arrival may be stamped, in microseconds
abbrev pub back_most : ℕ
back_most = 1000

-- whether an arrival time goes back too far: it is over 1,000 below the reference, the greatest earlier time
unfoldable pub too_early : ℕ → ℕ → Bool
too_early reference time = ltb back_most (reference - time)

-- the reference for the arrival after one at `time`: the greater of both. Before the first arrival it is 0
unfoldable pub next_reference : ℕ → ℕ → ℕ
next_reference reference time = cond (ltb reference time) time reference

-- the greatest time of some arrivals, 0 for none
unfoldable pub greatest_time : List Arrival → ℕ
greatest_time l = foldl (λ (t : ℕ) (a : Arrival). next_reference t a.time) 0 l

-- the time from an arrival at `past` to one at `own`: after it or before it. Equal times are after, by 0
unfoldable pub elapsed : ℕ → ℕ → LateTime
elapsed past own = cond (ltb own past) (Before (past - own)) (After (own - past))

-- whether the clock steps back: the first arrival is stamped before t, or another before the one that precedes it
unfoldable pub steps_back : ℕ → List Arrival → Bool
steps_back t [] = false
steps_back t (a ∷ l) = ltb a.time t || steps_back a.time l
