-- A number in decimal, as ASCII octets, and the value of such octets. Assumes nothing.
use Rattle.std.specs.Prelude.{ℕ, zero, suc, ◌+◌, ◌-◌, ◌*◌, ◌/◌, ◌%◌}
use mathlib.Core.List.{List, [], ◌∷◌, ◌++◌, foldl}

-- a number by its tens and its last digit: the tens in decimal, unless they are 0, and then that digit. `places` bounds the recursion;
-- the digit 0 is octet 48
unfoldable pub digits_of : (places tens last : ℕ) → List ℕ
digits_of zero tens last = []
digits_of (suc places) zero last = (48 + last) ∷ []
digits_of (suc places) (suc tens) last = digits_of places (suc tens / 10) (suc tens % 10) ++ ((48 + last) ∷ [])

-- a number in decimal
unfoldable pub decimal_of : ℕ → List ℕ
decimal_of n = digits_of (suc n) (n / 10) (n % 10)

-- the value of ASCII digits
unfoldable pub decimal_value : List ℕ → ℕ
decimal_value os = foldl (λ (v o : ℕ). v * 10 + (o - 48)) 0 os
