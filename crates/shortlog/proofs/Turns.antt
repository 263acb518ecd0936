-- The lines with the numbers found are those that textlog's import finds by the greatest number before them alone (`lines_by`), since a
-- line more makes the greatest the greater of both (`greatest-snoc`, `turn-from`). Here r is the range, d a decoded line, ds those after
-- it. Assumes nothing.
use Prim.Native.Nat.{ℕ, max}
use mathlib.Core.Path.{◌≡◌, refl, ap, ◌∙◌}
use mathlib.Core.List.{List, [], ◌∷◌, ◌++◌, map, foldl}
use Rattle.rfc4737.specs.Judge.{numbers_of}
use Rattle.shortnumbers.specs.Number.{number_found}
use Rattle.shortnumbers.specs.InTurn.{greatest_of, in_turn}
use Rattle.textlog.specs.Decode.{DecodedLine, malformed, arrived, decoded_lines, arrival_or0, arrivals_of_lines}
use Rattle.textlog.specs.Numbers.{lines_by}
use Rattle.shortlog.specs.Found.{greatest_of_lines, line_found, lines_found}

greatest-after : (x : ℕ) (ds : List DecodedLine) (d : DecodedLine)
    → foldl max x (numbers_of (map arrival_or0 (ds ++ (d ∷ [])))) ≡ max (foldl max x (numbers_of (map arrival_or0 ds))) (arrival_or0 d).number
greatest-after x [] d = refl
greatest-after x (e ∷ ds) d = greatest-after (max x (arrival_or0 e).number) ds d

-- the greatest number of a line more
greatest-snoc : (ds : List DecodedLine) (d : DecodedLine)
    → greatest_of_lines (ds ++ (d ∷ [])) ≡ max (greatest_of_lines ds) (arrival_or0 d).number
unfolding greatest_of arrivals_of_lines
greatest-snoc ds d = greatest-after 0 ds d

turn-from : (r : ℕ) (before ds : List DecodedLine)
    → in_turn greatest_of_lines (line_found r) before ds ≡ lines_by (number_found r) (greatest_of_lines before) ds
unfolding in_turn lines_by
turn-from r before [] = refl
turn-from r before (malformed ∷ ds) =
    ap (λ (l : List DecodedLine). malformed ∷ l)
    (turn-from r (before ++ (malformed ∷ [])) ds ∙ ap (λ (g : ℕ). lines_by (number_found r) g ds) (greatest-snoc before malformed))
turn-from r before (arrived a ∷ ds) =
    let e : DecodedLine = line_found r (greatest_of_lines before) (arrived a) in
    ap (λ (l : List DecodedLine). e ∷ l)
    (turn-from r (before ++ (e ∷ [])) ds ∙ ap (λ (g : ℕ). lines_by (number_found r) g ds) (greatest-snoc before e))

-- those of a log, from its start
pub found-start : (r : ℕ) (log : List ℕ) → lines_found r log ≡ lines_by (number_found r) 0 (decoded_lines log)
unfolding greatest_of arrivals_of_lines
found-start r log = turn-from r [] (decoded_lines log)
