-- A number in decimal. `by-tens` is the induction over digits: a number below ten, and a longer one from the number of its tens, n / 10.
-- Digits do not depend on the bound (`same-places`), so `decimal_of` is one digit below ten (`one-digit`), else the digits of the tens and
-- then the last one (`more-digits`). By this induction the digits read back as n (`reads-back`) and there is always one. Their number goes
-- by powers of ten: each division by ten takes one off, so below 10 ^ k there are at most k, and from 10 ^ k on more than k (`at_most`,
-- `at_least`, `exactly`). Here n is a number, t its tens, o its last digit or an octet, k a count of digits, f and g are bounds, os
-- octets. Assumes nothing.
use mathlib.Core.Path.{◌≡◌, refl, ap}
use mathlib.Core.List.{List, [], ◌∷◌, ◌++◌, foldl-append}
use Prim.Native.Nat.{ℕ, zero, suc, ◌+◌, ◌-◌, ◌*◌, ◌/◌, ◌%◌, ◌^◌, ◌≤◌, ◌<◌}
use native.Mathlib.Nat.{add-zero, div-one, div-div-eq-div-mul, pow-succ', one-le-pow}
use native.Mathlib.Decide.{dec_le}
use native.Mathlib.Omega.{arith}
use lib.ListN.{length, length-append}
use Rattle.decimal.specs.Decimal.{digits_of, decimal_of, decimal_value}

-- one order or the other
split {ℓ} : {X : Type ℓ} (a b : ℕ) → (a ≤ b → X) → (b < a → X) → X
split a b f g = elim (dec_le a b) [ yes h ↦ f h | no h ↦ g (omega arith) ]

-- induction over the digits: a number of one digit, and a longer one from the number of its tens
pub by-tens {ℓ} : (P : ℕ → Type ℓ) → ((n : ℕ) → n < 10 → P n) → ((n : ℕ) → 10 ≤ n → P (n / 10) → P n) → (n : ℕ) → P n
by-tens P one more n = go n n (omega arith)
  where
    go : (steps m : ℕ) → m ≤ steps → P m
    go zero m h = one m (omega arith)
    go (suc steps) m h = split 10 m (λ k. more m k (go steps (m / 10) (omega arith))) (one m)

-- any bound above the tens gives the same digits
same-places : (f g t o : ℕ) → t < f → t < g → digits_of f t o ≡ digits_of g t o
unfolding digits_of
same-places zero g t o hf hg = absurd (omega arith)
same-places (suc f) zero t o hf hg = absurd (omega arith)
same-places (suc f) (suc g) zero o hf hg = refl
same-places (suc f) (suc g) (suc t) o hf hg =
    let e : digits_of f (suc t / 10) (suc t % 10) ≡ digits_of g (suc t / 10) (suc t % 10) =
    same-places f g (suc t / 10) (suc t % 10) (omega arith) (omega arith) in
    rw e

-- one digit taken off
one_place : (n t o : ℕ) → suc t ≤ n → digits_of (suc n) (suc t) o ≡ digits_of (suc (suc t)) (suc t / 10) (suc t % 10) ++ ((48 + o) ∷ [])
unfolding digits_of
one_place n t o h =
    ap (λ (l : List ℕ). l ++ ((48 + o) ∷ [])) (same-places n (suc (suc t)) (suc t / 10) (suc t % 10) (omega arith) (omega arith))

-- a number below ten is its one digit
pub one-digit : (n : ℕ) → n < 10 → decimal_of n ≡ (48 + n) ∷ []
unfolding decimal_of digits_of
one-digit n h =
    let tens : n / 10 ≡ 0 = omega arith in
    let last : n % 10 ≡ n = omega arith in
    rw (tens, last)

-- another number is the number of its tens in decimal, and then its last digit
pub more-digits : (n : ℕ) → 10 ≤ n → decimal_of n ≡ decimal_of (n / 10) ++ ((48 + n % 10) ∷ [])
unfolding decimal_of
more-digits n h = go (n / 10) refl
  where
    go : (t : ℕ) → n / 10 ≡ t → digits_of (suc n) t (n % 10) ≡ digits_of (suc t) (t / 10) (t % 10) ++ ((48 + n % 10) ∷ [])
    go zero e = absurd (omega arith)
    go (suc t) e = one_place n t (n % 10) (omega arith)

-- digits and one more read as ten times the number and the last digit
pub value-more : (os : List ℕ) (o : ℕ) → decimal_value (os ++ (o ∷ [])) ≡ decimal_value os * 10 + (o - 48)
unfolding decimal_value
value-more os o = foldl-append _ 0 os (o ∷ [])

-- a number in decimal reads back as the number
pub reads-back : (n : ℕ) → decimal_value (decimal_of n) ≡ n
unfolding decimal_value
reads-back = by-tens (λ (n : ℕ). decimal_value (decimal_of n) ≡ n) one more
  where
    one : (n : ℕ) → n < 10 → decimal_value (decimal_of n) ≡ n
    one n h = rw (one-digit n h) (omega arith)

    more : (n : ℕ) → 10 ≤ n → decimal_value (decimal_of (n / 10)) ≡ n / 10 → decimal_value (decimal_of n) ≡ n
    more n h back = rw (more-digits n h, value-more (decimal_of (n / 10)), back) (omega arith)

-- a number of more than one digit has one more than the number of its tens
pub one_more : (n : ℕ) → 10 ≤ n → length (decimal_of n) ≡ length (decimal_of (n / 10)) + 1
one_more n h = rw (more-digits n h, length-append)

-- a number from 10 ^ k on has k digits more than what is left where its last k are cut off
pub cut_off : (k n : ℕ) → 10 ^ k ≤ n → length (decimal_of n) ≡ length (decimal_of (n / 10 ^ k)) + k
cut_off zero n h = rw (div-one, add-zero)
cut_off (suc k) n h =
    let p : 1 ≤ 10 ^ k = one-le-pow k 10 (omega arith) in
    let e : 10 ^ suc k ≡ 10 * 10 ^ k = pow-succ' 10 k in
    let d : n / 10 ^ suc k ≡ n / 10 / 10 ^ k = rw (e, div-div-eq-div-mul n 10 (10 ^ k)) in
    rw d (omega (arith, one_more n (omega arith), cut_off k (n / 10) (omega arith)))

-- there is always a digit
never-empty : (n : ℕ) → 0 < length (decimal_of n)
never-empty =
    by-tens (λ (n : ℕ). 0 < length (decimal_of n)) (λ n h. omega (arith, ap length (one-digit n h)))
    (λ n h some. omega (arith, one_more n h))

-- an ASCII digit
abbrev pub Digit : ℕ → Type 0
Digit o = (48 ≤ o) × (o ≤ 57)

-- a number below 10 ^ k has at most k digits, where k is not 0
pub at_most : (k n : ℕ) → 0 < k → n < 10 ^ k → length (decimal_of n) ≤ k
at_most zero n p h = absurd (omega arith)
at_most (suc zero) n p h = omega (arith, ap length (one-digit n (omega arith)))
at_most (suc (suc k)) n p h =
    split 10 n
    (λ t. omega (arith, one_more n t, at_most (suc k) (n / 10) (omega arith) (omega (arith, pow-succ' 10 (suc k)))))
    (λ t. omega (arith, ap length (one-digit n t)))

-- a number from 10 ^ k on has more than k digits
pub at_least : (k n : ℕ) → 10 ^ k ≤ n → k < length (decimal_of n)
at_least zero n h = never-empty n
at_least (suc k) n h =
    let p : 1 ≤ 10 ^ k = one-le-pow k 10 (omega arith) in
    let e : 10 ^ suc k ≡ 10 * 10 ^ k = pow-succ' 10 k in
    omega (arith, one_more n (omega arith), at_least k (n / 10) (omega arith))

-- so a number from 10 ^ k up to 10 ^ (k + 1) has k + 1
pub exactly : (k n : ℕ) → 10 ^ k ≤ n → n < 10 ^ (k + 1) → length (decimal_of n) ≡ k + 1
exactly k n l h = omega (arith, at_least k n l, at_most (k + 1) n (omega arith) h)

-- a number of 64 bits has at most 20 digits
pub at-most-20 : (n : ℕ) → n < 2 ^ 64 → length (decimal_of n) ≤ 20
at-most-20 n h = at_most 20 n (omega arith) (omega arith)
