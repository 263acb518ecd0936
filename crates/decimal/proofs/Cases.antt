-- Some numbers in decimal, computed: 0, 7, 10, 4096 and the greatest of 64 bits. Assumes nothing.
use mathlib.Core.Path.{◌≡◌, refl}
use mathlib.Core.List.{[], ◌∷◌, map}
use Rattle.decimal.specs.Decimal.{digits_of, decimal_of}

-- each is its digits
cases : map decimal_of (0 ∷ 7 ∷ 10 ∷ 4096 ∷ 18446744073709551615 ∷ [])
    ≡ ((48 ∷ []) ∷ (55 ∷ []) ∷ (49 ∷ 48 ∷ []) ∷ (52 ∷ 48 ∷ 57 ∷ 54 ∷ [])
    ∷ (49 ∷ 56 ∷ 52 ∷ 52 ∷ 54 ∷ 55 ∷ 52 ∷ 52 ∷ 48 ∷ 55 ∷ 51 ∷ 55 ∷ 48 ∷ 57 ∷ 53 ∷ 53 ∷ 49 ∷ 54 ∷ 49 ∷ 53 ∷ []) ∷ [])
unfolding digits_of decimal_of
cases = refl
