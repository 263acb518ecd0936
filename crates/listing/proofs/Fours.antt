-- A number n in decimal by pairs of digits and by fours: the law of its last digit (decimal's `more-digits`), taken twice, is that of its
-- last two (`more-pairs`), that one taken twice is that of its last four (`more-fours`), and so on to its last eight. In these a, b and c
-- say that the quotients and remainders by 10 or 100 in turn are those by 100 or 10,000; in `more-eights` a says it of two quotients by
-- 10,000, and b is the law of the last four of n / 10,000. Assumes nothing.
use Prim.Native.Nat.{ℕ, ◌+◌, ◌/◌, ◌%◌, ◌≤◌, ◌<◌}
use native.Mathlib.Omega.{arith}
use mathlib.Core.Path.{◌≡◌, ap, ◌∙◌}
use mathlib.Core.List.{List, [], ◌∷◌, ◌++◌, append_assoc}
use Rattle.decimal.specs.Decimal.{decimal_of}
use Rattle.decimal.proofs.Laws.{one-digit, more-digits}
use Rattle.listing.specs.Private.Written.{pair, four}

pub two_digits : (n : ℕ) → 10 ≤ n → n < 100 → decimal_of n ≡ pair n
two_digits n low high = more-digits n low ∙ ap (λ (l : List ℕ). l ++ ((48 + n % 10) ∷ [])) (one-digit (n / 10) (omega arith))

-- the last two digits of a longer number
more-pairs : (n : ℕ) → 100 ≤ n → decimal_of n ≡ decimal_of (n / 100) ++ pair (n % 100)
more-pairs n h =
    let a : n / 10 / 10 ≡ n / 100 = omega arith in
    let b : n / 10 % 10 ≡ n % 100 / 10 = omega arith in
    let c : n % 10 ≡ n % 100 % 10 = omega arith in
    more-digits n (omega arith) ∙ ap (λ (l : List ℕ). l ++ ((48 + n % 10) ∷ [])) (more-digits (n / 10) (omega arith))
    ∙ append_assoc (decimal_of (n / 10 / 10)) ((48 + n / 10 % 10) ∷ []) ((48 + n % 10) ∷ [])
    ∙ rw (a, b, c)

pub three-digits : (n : ℕ) → 100 ≤ n → n < 1000 → decimal_of n ≡ ((48 + n / 100) ∷ []) ++ pair (n % 100)
three-digits n low high = more-pairs n low ∙ ap (λ (l : List ℕ). l ++ pair (n % 100)) (one-digit (n / 100) (omega arith))

pub four-digits : (n : ℕ) → 1000 ≤ n → n < 10000 → decimal_of n ≡ four n
four-digits n low high =
    more-pairs n (omega arith) ∙ ap (λ (l : List ℕ). l ++ pair (n % 100)) (two_digits (n / 100) (omega arith) (omega arith))

-- the last four
pub more-fours : (n : ℕ) → 10000 ≤ n → decimal_of n ≡ decimal_of (n / 10000) ++ four (n % 10000)
more-fours n h =
    let a : n / 100 / 100 ≡ n / 10000 = omega arith in
    let b : n / 100 % 100 ≡ n % 10000 / 100 = omega arith in
    let c : n % 100 ≡ n % 10000 % 100 = omega arith in
    more-pairs n (omega arith) ∙ ap (λ (l : List ℕ). l ++ pair (n % 100)) (more-pairs (n / 100) (omega arith))
    ∙ append_assoc (decimal_of (n / 100 / 100)) (pair (n / 100 % 100)) (pair (n % 100))
    ∙ rw (a, b, c)

-- the last eight
pub more-eights : (n : ℕ) → 100000000 ≤ n → decimal_of n ≡ (decimal_of (n / 100000000) ++ four (n / 10000 % 10000)) ++ four (n % 10000)
more-eights n h =
    let a : n / 10000 / 10000 ≡ n / 100000000 = omega arith in
    let b : decimal_of (n / 10000) ≡ decimal_of (n / 100000000) ++ four (n / 10000 % 10000) =
    rw (← a) (more-fours (n / 10000) (omega arith)) in
    more-fours n (omega arith) ∙ ap (λ (l : List ℕ). l ++ four (n % 10000)) b
