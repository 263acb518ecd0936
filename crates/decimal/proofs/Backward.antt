-- Digits written into memory from the last to the first. `lowest k n` are the last k digits of n, and all of them if n has k digits. The
-- last digit of n stored, and then the last k of its tens written in front of it, are the last k + 1 of n (`write-one`): one write after
-- what stands behind it is one write of both. Twice this is a turn, which leaves the last i - 2 of n / 100 to be written (`write_two`).
-- Here at is the offset of the first digit, old memory before, i the number of digits left. Assumes nothing.
use mathlib.Core.Path.{◌≡◌, refl, sym, ap, ◌∙◌}
use mathlib.Core.List.{List, [], ◌∷◌, ◌++◌}
use Prim.Native.Nat.{ℕ, zero, suc, ◌+◌, ◌-◌, ◌/◌, ◌%◌, ◌≤◌, ◌<◌}
use native.Mathlib.Nat.{add-zero, mod-mod}
use native.Mathlib.Numerals.{add-one}
use native.Mathlib.Omega.{arith}
use lib.Arith.{mod-mul, digits_div}
use lib.ListN.{length, set, length-append, length-set}
use Rattle.octets.specs.Memory.{splice}
use Rattle.octets.proofs.Memory.{splice-nil, splice-set, splice-prior}
use Rattle.decimal.specs.Decimal.{decimal_of}
use Rattle.decimal.proofs.Laws.{by-tens, one-digit, more-digits, one_more}

-- the last k digits of a number
pub lowest : ℕ → ℕ → List ℕ
lowest zero n = []
lowest (suc k) n = lowest k (n / 10) ++ ((48 + n % 10) ∷ [])

length-lowest : (k n : ℕ) → length (lowest k n) ≡ k
unfolding lowest
length-lowest zero n = refl
length-lowest (suc k) n = rw (length-append, length-lowest k (n / 10)) (omega arith)

-- a number in decimal is as many of its last digits as it has
pub all-lowest : (n : ℕ) → lowest (length (decimal_of n)) n ≡ decimal_of n
unfolding lowest
all-lowest = by-tens (λ (n : ℕ). lowest (length (decimal_of n)) n ≡ decimal_of n) one more
  where
    one : (n : ℕ) → n < 10 → lowest (length (decimal_of n)) n ≡ decimal_of n
    one n h = let e : n % 10 ≡ n = omega arith in rw (one-digit n h, e)

    more : (n : ℕ) → 10 ≤ n → lowest (length (decimal_of (n / 10))) (n / 10) ≡ decimal_of (n / 10)
        → lowest (length (decimal_of n)) n ≡ decimal_of n
    more n h so = rw (one_more n h, add-one, more-digits n h, so)

-- no digit written
pub write-none : (at n : ℕ) (old : List ℕ) → old ≡ splice at (lowest 0 n) old
unfolding lowest
write-none at n old = sym (splice-nil at old)

-- one digit written, after k that are yet to be written
write-one : (at k n : ℕ) (old : List ℕ) → at + k < length old
    → splice at (lowest k (n / 10)) (set old (at + k) (48 + n % 10)) ≡ splice at (lowest (suc k) n) old
unfolding lowest
write-one at k n old h =
    let end : at + length (lowest k (n / 10)) ≡ at + k = ap (λ (j : ℕ). at + j) (length-lowest k (n / 10)) in
    let room : at + k ≤ length old = omega arith in
    rw (splice-set (at + k) (48 + n % 10) old h) (splice-prior at (at + k) (lowest k (n / 10)) ((48 + n % 10) ∷ []) old end room)

-- two digits written, the last of them first
pub write_two : (at i n : ℕ) (old : List ℕ) → 1 < i → at + i ≤ length old
    → splice at (lowest (i - 2) (n / 100)) (set (set old (at + (i - 2) + 1) (48 + n % 100 % 10)) (at + (i - 2)) (48 + n % 100 / 10 % 10))
    ≡ splice at (lowest i n) old
write_two at i n old p h =
    let k : ℕ = i - 2 in
    let a : n % 100 % 10 ≡ n % 10 = omega arith in
    let low : n % 10 < 10 = omega arith in
    let b : n % 100 / 10 % 10 ≡ n / 10 % 10 =
    rw (mod-mul n {m = 10} {c = 10} (omega arith) (omega arith), digits_div (n / 10 % 10) low, mod-mod) in
    let d : n / 100 ≡ n / 10 / 10 = omega arith in
    let e : at + k + 1 ≡ at + suc k = omega arith in
    let f : suc (suc k) ≡ i = omega arith in
    let m : List ℕ = set old (at + suc k) (48 + n % 10) in
    rw (a, b, d, e)
    (write-one at k (n / 10) m (rw length-set (omega arith))
    ∙ write-one at (suc k) n old (omega arith)
    ∙ ap (λ (j : ℕ). splice at (lowest j n) old) f)

-- the one digit that is left written
pub write-first : (at n : ℕ) (old : List ℕ) → at < length old → set old at (48 + n % 10) ≡ splice at (lowest 1 n) old
write-first at n old h =
    let z : at + 0 ≡ at = add-zero at in
    write-none at (n / 10) (set old at (48 + n % 10))
    ∙ ap (λ (j : ℕ). splice at (lowest 0 (n / 10)) (set old j (48 + n % 10))) (sym z)
    ∙ write-one at 0 n old (rw z h)
