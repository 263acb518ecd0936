-- True numbers that keep their distance are found. A log of the short numbers decodes to them (`form-decoded`); the lines found of
-- arrivals are the arrivals found, by induction on the list with those before carried along (`turn-arrived`); and these are the true ones
-- (`turn-true`).
-- Here r is the range, l are arrivals, `before` those before them. Assumes nothing.
use Prim.Native.Nat.{ℕ}
use mathlib.Core.Path.{◌≡◌, refl, sym, ap, ◌∙◌}
use mathlib.Core.List.{List, [], ◌∷◌, ◌++◌, map, map-append}
use Rattle.rfc4737.specs.declared.Arrival.{Arrival}
use Rattle.shortnumbers.specs.Number.{range_of, Near}
use Rattle.shortnumbers.specs.InTurn.{in_turn}
use Rattle.shortnumbers.specs.Steps.{with_found, shortened}
use Rattle.shortnumbers.proofs.Numbers.{Even, even-width}
use Rattle.shortnumbers.proofs.InTurn.{turn-true}
use Rattle.shortnumbers.proofs.Steps.{found-again}
use Rattle.textlog.specs.Decode.{DecodedLine, arrived, arrivals_of_lines}
use Rattle.textlog.proofs.RoundTrips.{form-decoded, arrived-back}
use Rattle.shortlog.specs.Found.{greatest_number, greatest_of_lines, line_found, TrueInLogs, EveryLog}

-- the lines found of arrivals are the arrivals found
turn-arrived : (r : ℕ) (before l : List Arrival)
    → in_turn greatest_of_lines (line_found r) (map arrived before) (map arrived l) ≡ map arrived (in_turn greatest_number (with_found r) before l)
unfolding in_turn
turn-arrived r before [] = refl
turn-arrived r before (a ∷ l) =
    let b : Arrival = with_found r (greatest_number before) a in
    let g : greatest_of_lines (map arrived before) ≡ greatest_number before = ap greatest_number (arrived-back before) in
    ap (λ (x : ℕ). arrived (with_found r x a)
    ∷ in_turn greatest_of_lines (line_found r) (map arrived before ++ (arrived (with_found r x a) ∷ [])) (map arrived l)) g
    ∙ ap (λ (x : List DecodedLine). arrived b ∷ in_turn greatest_of_lines (line_found r) x (map arrived l))
    (sym (map-append arrived before (b ∷ [])))
    ∙ ap (λ (x : List DecodedLine). arrived b ∷ x) (turn-arrived r (before ++ (b ∷ [])) l)

true-in-logs : (r : ℕ) → Even r → TrueInLogs r
true-in-logs r range log l form keeps =
    ap (λ (ds : List DecodedLine). arrivals_of_lines (in_turn greatest_of_lines (line_found r) [] ds)) (form-decoded form)
    ∙ ap arrivals_of_lines (turn-arrived r [] (map (shortened r) l))
    ∙ arrived-back (in_turn greatest_number (with_found r) [] (map (shortened r) l))
    ∙ turn-true greatest_number (with_found r) (shortened r) (λ (g : ℕ) (a : Arrival). Near r g a.number) (found-again r range) l keeps

pub every-log : EveryLog
every-log w h = true-in-logs (range_of w) (even-width w h)
