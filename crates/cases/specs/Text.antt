-- The parts of a text between separators, and the numbers in a text. Assumes nothing.
use Rattle.std.specs.Prelude.{ℕ, min, Bool, true, false, List, [], ◌∷◌, map, ◌==◌}
use Rattle.decimal.specs.Reading.{leading_value, word_most}

-- the parts of a text that begins with octet o, by the parts of the rest: a separator ends an empty part, any other octet begins the first
unfoldable pub with_octet : Bool → ℕ → List (List ℕ) → List (List ℕ)
with_octet true o ps = [] ∷ ps
with_octet false o [] = (o ∷ []) ∷ []
with_octet false o (p ∷ ps) = (o ∷ p) ∷ ps

-- the parts of a text: each ends before a separator, the last one at the text's end; an empty text has none
unfoldable pub cut_at : ℕ → List ℕ → List (List ℕ)
cut_at separator [] = []
cut_at separator (o ∷ t) = with_octet (o == separator) o (cut_at separator t)

-- the value of the digits that a part begins with, at most the greatest number of 64 bits
abbrev pub part_number : List ℕ → ℕ
part_number p = min (leading_value p) word_most

-- the numbers in a text, with one blank between them
abbrev pub numbers_in : List ℕ → List ℕ
numbers_in t = map part_number (cut_at 32 t)
