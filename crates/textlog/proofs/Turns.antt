-- Decoded lines and their arrivals, and the lines with their full numbers as a loop finds them (`lines_by`): nothing, a malformed line or an
-- arrival first. Lines that have the full number stay as they are (`lines-full`). Here `find` finds a full number, g is the greatest number
-- before, d a decoded line, ds those after it, `left` those that are left. Assumes nothing.
use Prim.Native.Nat.{ℕ, max}
use mathlib.Core.Path.{◌≡◌, refl, sym, ap, ◌∙◌}
use mathlib.Core.List.{List, [], ◌∷◌}
use lib.ListN.{length, length-map}
use Rattle.rfc4737.specs.declared.Arrival.{Arrival}
use Rattle.textlog.specs.Decode.{DecodedLine, malformed, arrived, arrival_or0, arrivals_of_lines}
use Rattle.textlog.specs.Numbers.{lines_by}

-- ---- the arrivals of decoded lines

pub lines-length : (ds : List DecodedLine) → length (arrivals_of_lines ds) ≡ length ds
unfolding arrivals_of_lines
lines-length ds = length-map ds _

-- the first of them
pub lines-first : (d : DecodedLine) (ds : List DecodedLine) → arrivals_of_lines (d ∷ ds) ≡ arrival_or0 d ∷ arrivals_of_lines ds
unfolding arrivals_of_lines
lines-first d ds = refl

-- ---- with their full numbers

-- which they have
pub lines-full : (g : ℕ) (ds : List DecodedLine) → lines_by (λ (greatest number : ℕ). number) g ds ≡ ds
unfolding lines_by
lines-full g [] = refl
lines-full g (malformed ∷ ds) = ap (λ (l : List DecodedLine). malformed ∷ l) (lines-full (max g 0) ds)
lines-full g (arrived a ∷ ds) = ap (λ (l : List DecodedLine). arrived a ∷ l) (lines-full (max g a.number) ds)

module _ (find : ℕ → ℕ → ℕ) (g : ℕ) {left : List DecodedLine} where
  -- nothing
  pub lines_none : left ≡ [] → lines_by find g left ≡ []
  unfolding lines_by
  lines_none e = ap (lines_by find g) e

  -- a malformed line first
  pub lines-bad : {ds : List DecodedLine} → left ≡ malformed ∷ ds → lines_by find g left ≡ malformed ∷ lines_by find (max g 0) ds
  unfolding lines_by
  lines-bad e = ap (lines_by find g) e

  -- an arrival first
  pub lines-next : (a : Arrival) (ds : List DecodedLine) → left ≡ arrived a ∷ ds → {m : ℕ} → m ≡ find g a.number
      → lines_by find g left ≡ arrived (record { number = m; time = a.time }) ∷ lines_by find (max g m) ds
  unfolding lines_by
  lines-next a ds e q =
      ap (lines_by find g) e ∙ ap (λ (m : ℕ). arrived (record { number = m; time = a.time }) ∷ lines_by find (max g m) ds) (sym q)
