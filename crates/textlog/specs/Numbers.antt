-- The lines of a log with their full numbers, each by the greatest full number before it. `find` finds a full number by that and by the
-- number on the line. Assumes nothing.
use Rattle.std.specs.Prelude.{ℕ, List, [], ◌∷◌, max}
use Rattle.rfc4737.specs.declared.Arrival.{Arrival}
use Rattle.textlog.specs.Decode.{DecodedLine, malformed, arrived, decoded_lines, arrival_or0, arrivals_of_lines}

-- a decoded line with its full number, where g is the greatest number before it
abbrev pub line_by : (find : ℕ → ℕ → ℕ) (g : ℕ) → DecodedLine → DecodedLine
line_by find g malformed = malformed
line_by find g (arrived a) = arrived (record { number = find g a.number; time = a.time })

-- decoded lines with their full numbers, where g is the greatest number before them
unfoldable pub lines_by : (find : ℕ → ℕ → ℕ) (g : ℕ) → List DecodedLine → List DecodedLine
lines_by find g [] = []
lines_by find g (d ∷ ds) = line_by find g d ∷ lines_by find (max g (arrival_or0 (line_by find g d)).number) ds

-- the arrivals of a log with their full numbers
abbrev pub arrivals_by : (find : ℕ → ℕ → ℕ) → List ℕ → List Arrival
arrivals_by find log = arrivals_of_lines (lines_by find 0 (decoded_lines log))
