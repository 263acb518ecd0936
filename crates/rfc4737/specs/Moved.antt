-- Moving the clock: one amount is added to all arrival times, as where two sites start their clocks at different moments.
-- Assumes nothing.
use Rattle.std.specs.Prelude.{ℕ, ◌+◌, List, map, ◌≡◌}
use Rattle.rfc4737.specs.declared.Arrival.{Arrival}

-- an arrival with c added to its time
abbrev pub moved_one : ℕ → Arrival → Arrival
moved_one c a = record { number = a.number; time = a.time + c }

-- arrivals with c added to all their times
abbrev pub moved : ℕ → List Arrival → List Arrival
moved c l = map (moved_one c) l

-- moving by one amount and then by another is moving by their sum
abbrev pub MovedTwice : Type 0
MovedTwice = (b c : ℕ) (l : List Arrival) → moved c (moved b l) ≡ moved (b + c) l
