-- The decimal digits from an offset on, and their value, at most the greatest number of 64 bits. Assumes nothing.
use Rattle.std.specs.Prelude.{ℕ, suc, ◌+◌, ◌-◌, ◌^◌, ◌<◌, min, Bool, cond, ◌&&◌, List, [], ◌∷◌, ◌++◌, ◌≡◌, leb, length, take, drop}
use Rattle.decimal.specs.Decimal.{decimal_of, decimal_value}
use Rattle.decimal.specs.declared.reading.Number.{Number}

-- whether an octet is a decimal digit, `0` to `9`
unfoldable pub digit : ℕ → Bool
digit o = leb 48 o && leb o 57

-- the number of digits that a text begins with
unfoldable pub digit_count : List ℕ → ℕ
digit_count [] = 0
digit_count (o ∷ t) = cond (digit o) (suc (digit_count t)) 0

-- the digits that a text begins with
abbrev pub leading : List ℕ → List ℕ
leading t = take (digit_count t) t

-- the value of these digits, 0 if there are none
abbrev pub leading_value : List ℕ → ℕ
leading_value t = decimal_value (leading t)

-- the greatest number of 64 bits
abbrev pub word_most : ℕ
word_most = 2 ^ 64 - 1

-- the digits from offset `at` on: the offset after the last one, and their value, at most `word_most`
abbrev pub number_at : (at : ℕ) → List ℕ → Number
number_at at os = record { end = at + digit_count (drop at os); value = min (leading_value (drop at os)) word_most }

-- a number of 64 bits in decimal reads back as itself wherever it stands, if no digit follows it
abbrev pub ReadsBack : Type 0
ReadsBack =
    (n : ℕ) (earlier later : List ℕ) → n < 2 ^ 64 → digit_count later ≡ 0
    → number_at (length earlier) (earlier ++ (decimal_of n ++ later)) ≡ record { end = length earlier + length (decimal_of n); value = n }
