-- Line n of a text. Assumes nothing.
use Rattle.std.specs.Prelude.{ℕ, ◌+◌, ◌≤◌, ◌≡◌, length, get_or, take, drop}
use mathlib.Core.List.{List, [], flatten}
use Rattle.octets.specs.Text.{lines}
use Rattle.text_lines.specs.declared.LinePart.{LinePart}

-- line n of a text, counted from 0, with the line feed that ends it; empty if there is no line n
unfoldable pub line_of : ℕ → List ℕ → List ℕ
line_of n text = get_or (lines text) n []

-- the offset of line n: after all lines before it; the end of the text if there is no line n
unfoldable pub line_start : ℕ → List ℕ → ℕ
line_start n text = length (flatten (take n (lines text)))

-- line n as a part of the text
abbrev pub line_part : ℕ → List ℕ → LinePart
line_part n text = record { start = line_start n text; length = length (line_of n text) }

-- this part is within the text, and is line n
pub record LineThere (n : ℕ) (text : List ℕ) : Type 0 where
  pub within : line_start n text + length (line_of n text) ≤ length text
  pub line : take (length (line_of n text)) (drop (line_start n text) text) ≡ line_of n text

-- the line that begins at offset `at` of a text ends before offset `end`
pub record FirstLineEnds (text : List ℕ) (at end : ℕ) : Type 0 where
  pub place : end ≡ at + length (line_of 0 (drop at text))
  pub within : end ≤ length text
