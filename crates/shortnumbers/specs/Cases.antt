-- Numbers found, by tables: the statement that the list calls' contracts carry. Assumes nothing.
use Rattle.std.specs.Prelude.{ℕ, List, [], ◌∷◌, map, ◌≡◌}
use Rattle.shortnumbers.specs.Number.{range_of, number_found}
use Rattle.shortnumbers.specs.Lists.{numbers_found}

-- the width, the greatest number accepted, a short number, and the number found
pub record ShortCase : Type 0 where
  pub width : ℕ
  pub greatest : ℕ
  pub short : ℕ
  pub number : ℕ

-- a case by its four numbers
abbrev pub case : (width greatest short number : ℕ) → ShortCase
case w g x n = record { width = w; greatest = g; short = x; number = n }

-- the cases of one short number
abbrev pub short_cases : List ShortCase
short_cases =
    -- the first numbers after 0, and 128 and 200 of 8 bits, which are below 1
    case 8 0 1 1 ∷ case 8 0 127 127 ∷ case 8 0 128 0 ∷ case 8 0 200 0
    -- half the range below the greatest, and half above it, which is too far
    ∷ case 8 200 72 72 ∷ case 8 200 71 327 ∷ case 10 1000 488 488 ∷ case 10 1000 487 1511
    -- a wrap at 256 and at 1,024, and a late number across it
    ∷ case 8 250 3 259 ∷ case 8 259 250 250 ∷ case 10 1020 5 1029 ∷ case 10 1029 1020 1020
    -- over the width
    ∷ case 8 259 256 0 ∷ case 10 1020 1024 0
    ∷ []

-- the numbers found are those of the tables
pub record FoundAsGiven : Type 0 where
  -- each number is found as its case says
  pub one : map (λ (c : ShortCase). number_found (range_of c.width) c.greatest c.short) short_cases
      ≡ map (λ (c : ShortCase). c.number) short_cases
  -- 100, 200, 255, 256, 259, then 254 late, then 346, by their lowest 8 bits
  pub list : numbers_found (range_of 8) (100 ∷ 200 ∷ 255 ∷ 0 ∷ 3 ∷ 254 ∷ 90 ∷ []) ≡ (100 ∷ 200 ∷ 255 ∷ 256 ∷ 259 ∷ 254 ∷ 346 ∷ [])
