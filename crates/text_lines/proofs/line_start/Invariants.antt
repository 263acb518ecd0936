use Rattle.std.proofs.Common.{◌≡◌, ◌+◌, ◌-◌, ◌≤◌, length, drop}
use Rattle.text_lines.specs.Line.{line_of, line_start}
use Rattle.text_lines.proofs.line_start.Given as goal

-- line n of the text is the line of that many left, of the text from `at` on, and starts where that does
abbrev pub invariant-loop : goal.invariant-loop
invariant-loop l =
    (l.at ≤ length l.text) × (line_of l.n l.text ≡ line_of (l.n - l.counter) (drop l.at l.text))
    × (line_start l.n l.text ≡ l.at + line_start (l.n - l.counter) (drop l.at l.text))
