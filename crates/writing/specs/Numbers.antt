-- A number between two words. Assumes nothing.
use Rattle.std.specs.Prelude.{ℕ, List, ◌++◌}
use Rattle.decimal.specs.Decimal.{decimal_of}

-- a number in decimal, with a word before it and one after it
abbrev pub between : (before : List ℕ) → ℕ → (after : List ℕ) → List ℕ
between before n after = before ++ (decimal_of n ++ after)
