-- The arguments that are decimal numbers. Assumes nothing.
use Rattle.std.specs.Prelude.{ℕ, ◌-◌, ◌^◌, cond, Option, None, Some, List, ltb, eqb, length}
use Rattle.decimal.specs.Reading.{number_at}
use Rattle.decimal.specs.declared.reading.Number.{Number}

-- a word of `octets` octets is an argument if it consists of digits, at least one, and its value is below 2^32. `number` is the value of
-- the digits with which it begins, and the index after them
unfoldable pub argument_of : (octets : ℕ) → Number → Option ℕ
argument_of octets number =
    cond (eqb number.end 0) None
    (cond (ltb number.end octets) None
    (cond (ltb (2 ^ 32 - 1) number.value) None (Some number.value)))

-- the argument that a word is
abbrev pub argument_in : List ℕ → Option ℕ
argument_in word = argument_of (length word) (number_at 0 word)
