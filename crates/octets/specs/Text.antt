-- Text as octets, and its lines. Assumes nothing.
use Prim.Native.Char.{code}
use Rattle.std.specs.Prelude.{ℕ, cond, List, [], ◌∷◌, eqb}
use Prim.Native.String as text

-- a text of ASCII characters as octets
abbrev pub ascii : text.String → List ℕ
ascii text.[] = []
ascii (text.◌∷◌ c t) = code c ∷ ascii t

-- the octet that ends a line
abbrev pub line_feed : ℕ
line_feed = code "\n"

-- octet o in front of the first of these lines; a line of o alone if there is none
abbrev pub in_front : ℕ → List (List ℕ) → List (List ℕ)
in_front o [] = (o ∷ []) ∷ []
in_front o (l ∷ ls) = (o ∷ l) ∷ ls

-- the lines of a text, each with the line feed that ends it; octets after the last line feed are a line without one
unfoldable pub lines : List ℕ → List (List ℕ)
lines [] = []
lines (o ∷ t) = cond (eqb o line_feed) ((o ∷ []) ∷ lines t) (in_front o (lines t))
