-- Definitions for the contracts of private functions; no public contract reaches them. Assumes nothing.
use Rattle.std.specs.Prelude.{ℕ, ◌+◌, cond, List, [], ◌∷◌, eqb, take}
use Rattle.octets.specs.Text.{line_feed}
use Rattle.checker.specs.declared.Verdict.{Verdict}

-- the number of line feeds in a text
unfoldable pub feeds : List ℕ → ℕ
feeds [] = 0
feeds (x ∷ t) = cond (eqb x line_feed) (feeds t + 1) (feeds t)

-- the first wrong line if the first `octets` octets agree: their number of line feeds, plus 1
abbrev pub wrong_after : (octets : ℕ) (listing : List ℕ) → Verdict
wrong_after octets listing = Verdict.WrongLine (1 + feeds (take octets listing))
