-- A text log of short numbers: its lines with their full numbers. They are judged and imported as the lines of any log (textlog/specs).
-- Here r is the range of the short numbers, 2 to the number of their bits. Assumes nothing.
use Rattle.std.specs.Prelude.{ℕ, ◌≤◌, List, [], map, ◌≡◌}
use Rattle.rfc4737.specs.declared.Arrival.{Arrival}
use Rattle.rfc4737.specs.Judge.{numbers_of}
use Rattle.shortnumbers.specs.Number.{range_of, Near}
use Rattle.shortnumbers.specs.InTurn.{greatest_of, in_turn, EachKeeps}
use Rattle.shortnumbers.specs.Steps.{with_found, shortened}
use Rattle.textlog.specs.Form.{Log}
use Rattle.textlog.specs.Decode.{DecodedLine, malformed, arrived, decoded_lines, arrivals_of_lines, judge_decoded}
use Rattle.textlog.specs.declared.LogJudgement.{LogJudgement}
use Rattle.textlog.specs.Calls.{LinesImported}
use Rattle.textlog.specs.declared.LogImport.{LogImport}

-- ---- full numbers

-- the greatest number of arrivals, 0 for none
abbrev pub greatest_number : List Arrival → ℕ
greatest_number l = greatest_of (numbers_of l)

-- the greatest number of decoded lines, 0 for none
abbrev pub greatest_of_lines : List DecodedLine → ℕ
greatest_of_lines ds = greatest_number (arrivals_of_lines ds)

-- a decoded line with its full number, where g is the greatest number of the lines before it
abbrev pub line_found : (r g : ℕ) → DecodedLine → DecodedLine
line_found r g malformed = malformed
line_found r g (arrived a) = arrived (with_found r g a)

-- the decoded lines of a log with their full numbers. A line matters only if all lines before it are accepted, so the greatest number
-- before it is the greatest accepted one
abbrev pub lines_found : ℕ → List ℕ → List DecodedLine
lines_found r log = in_turn greatest_of_lines (line_found r) [] (decoded_lines log)

-- the arrivals of a log with their full numbers
abbrev pub found_arrivals : ℕ → List ℕ → List Arrival
found_arrivals r log = arrivals_of_lines (lines_found r log)

-- ---- what is refused, and what is imported

-- the judgement of a log: 4, then the lines in turn by their full numbers
abbrev pub judge_short_log : (r k : ℕ) → List ℕ → LogJudgement
judge_short_log r k log = judge_decoded k (lines_found r log)

-- the result of an import, and the two lists after it
abbrev pub ShortLogImportedFrom : (r k : ℕ) (log numbers times : List ℕ) → LogImport → (numbers' times' : List ℕ) → Type 0
ShortLogImportedFrom r k log = LinesImported k (lines_found r log)

-- ---- that the full numbers are the true ones

-- if each true number is near the greatest one before it (`Near`), the log of the arrivals' short numbers gives these arrivals
abbrev pub TrueInLogs : ℕ → Type 0
TrueInLogs r =
    (log : List ℕ) (l : List Arrival) → Log log (map (shortened r) l)
    → EachKeeps greatest_number (λ (g : ℕ) (a : Arrival). Near r g a.number) l
    → found_arrivals r log ≡ l

-- this holds for every width
abbrev pub EveryLog : Type 0
EveryLog = (w : ℕ) → 1 ≤ w → TrueInLogs (range_of w)
