-- The digits that a text begins with. Their number goes by the first octet, a digit or not (`count_none`, `count-one`). A number in
-- decimal is digits alone, by induction over its digits (`count-decimal`); so if no digit follows, exactly its digits are read, and they
-- read as the number (`back`). A loop that counts octets is at `Counted`: those from `at` to `end` are counted. So is the loop that reads
-- digits, and `value` is their number or the greatest of 64 bits (`Passed`). The next digit keeps this (`passed-more`), since a value that
-- is cut to the greatest stays there (`least_more`); at an octet that is no digit all are read (`passed-all`). Here o is an octet, t a
-- text, n a number, l and os octets. Assumes nothing.
use Prim.Native.Nat.{ℕ, suc, ◌+◌, ◌*◌, ◌-◌, ◌%◌, ◌/◌, ◌≤◌, ◌<◌, min}
use native.Mathlib.Nat.{add-zero}
use native.Mathlib.Omega.{arith}
use mathlib.Core.Bool.{Bool, true, false, ◌&&◌, true≢false}
use mathlib.Core.Path.{◌≡◌, refl, sym, ap, ◌∙◌}
use mathlib.Core.List.{List, [], ◌∷◌, ◌++◌}
use borrow.Author.Tests.{le-leb, leb-true}
use lib.Dec.{leb}
use lib.ListN.{length, get_or, drop, length-append, length-drop, get_or-eq_default}
use lib.Seq.{take_at, drop_at, get_or-drop, drop-drop, append_snoc}
use Rattle.octets.specs.Memory.{part}
use Rattle.octets.proofs.Memory.{part-snoc}
use Rattle.decimal.specs.Decimal.{decimal_of, decimal_value}
use Rattle.decimal.specs.Reading.{digit, digit_count, leading_value, word_most, number_at, ReadsBack}
use Rattle.decimal.proofs.Laws.{by-tens, one-digit, more-digits, value-more, reads-back, Digit}

-- ---- one digit

-- a digit passes the test
pub is_digit : {o : ℕ} → Digit o → digit o ≡ true
unfolding digit
is_digit {o} d = simp (le-leb 48 o d.0, le-leb o 57 d.1)

-- what passes the test is a digit
pub digit-bounds : (o : ℕ) → digit o ≡ true → Digit o
unfolding digit
digit-bounds o e = go (leb 48 o) (leb o 57) refl refl e
  where
    go : (t u : Bool) → leb 48 o ≡ t → leb o 57 ≡ u → (t && u) ≡ true → Digit o
    go true true p q e = (leb-true _ _ p, leb-true _ _ q)
    go true false p q e = absurd (true≢false (sym e))
    go false u p q e = absurd (true≢false (sym e))

-- no digit stands past the end
pub none-past : (l : List ℕ) (i : ℕ) → length l ≤ i → digit (get_or l i 0) ≡ false
unfolding digit
none-past l i h = rw (get_or-eq_default l 0 h)

-- ---- how many there are

-- no digit stands at the start
count_none : (t : List ℕ) → digit (get_or t 0 0) ≡ false → digit_count t ≡ 0
unfolding digit_count
count_none [] e = refl
count_none (o ∷ t) e = rw e

-- one does
count-one : (t : List ℕ) → 0 < length t → digit (get_or t 0 0) ≡ true → digit_count t ≡ suc (digit_count (drop 1 t))
unfolding digit_count
count-one [] h e = absurd (omega arith)
count-one (o ∷ t) h e = rw e

-- a number in decimal has as many as it has octets, and those after it follow
count-decimal : (n : ℕ) (t : List ℕ) → digit_count (decimal_of n ++ t) ≡ length (decimal_of n) + digit_count t
unfolding digit_count
count-decimal = by-tens (λ (n : ℕ). (t : List ℕ) → digit_count (decimal_of n ++ t) ≡ length (decimal_of n) + digit_count t) one more
  where
    one : (n : ℕ) → n < 10 → (t : List ℕ) → digit_count (decimal_of n ++ t) ≡ length (decimal_of n) + digit_count t
    one n h t = rw (one-digit n h, is_digit {o = 48 + n} (omega arith, omega arith)) (omega arith)

    more : (n : ℕ) → 10 ≤ n → ((t : List ℕ) → digit_count (decimal_of (n / 10) ++ t) ≡ length (decimal_of (n / 10)) + digit_count t)
        → (t : List ℕ) → digit_count (decimal_of n ++ t) ≡ length (decimal_of n) + digit_count t
    more n h so t =
        let d : digit (48 + n % 10) ≡ true = is_digit {o = 48 + n % 10} (omega arith, omega arith) in
        let s : digit_count ((48 + n % 10) ∷ t) ≡ suc (digit_count t) = rw d in
        rw (more-digits n h, append_snoc (decimal_of (n / 10)) (48 + n % 10) t, length-append (decimal_of (n / 10)) ((48 + n % 10) ∷ []))
        (omega (arith, so ((48 + n % 10) ∷ t)))

-- so it reads back
pub back : ReadsBack
back n earlier later h z =
    let t : drop (length earlier) (earlier ++ (decimal_of n ++ later)) ≡ decimal_of n ++ later =
    drop_at earlier (decimal_of n ++ later) (length earlier) refl in
    let c : length (decimal_of n) ≡ digit_count (decimal_of n ++ later) = omega (arith, count-decimal n later) in
    let v : leading_value (decimal_of n ++ later) ≡ n = ap decimal_value (take_at (decimal_of n) later _ c) ∙ reads-back n in
    let m : min n word_most ≡ n = omega arith in
    rw (t, v, m, ← c)

-- ---- a loop that counts octets, of which a text begins with `count`

-- those from `at` to `end` are counted
pub record Counted (count : List ℕ → ℕ) (os : List ℕ) (at end : ℕ) : Type 0 where
  pub onward : at ≤ end
  pub counted : count (drop at os) ≡ end - at + count (drop end os)

pub counted_none : (count : List ℕ → ℕ) (os : List ℕ) (at : ℕ) → Counted count os at at
counted_none count os at = record { onward = omega arith; counted = omega arith }

-- what stands at a place
pub stands : (os : List ℕ) (at : ℕ) → get_or (drop at os) 0 0 ≡ get_or os at 0
stands os at = get_or-drop at os 0 0 ∙ ap (λ (k : ℕ). get_or os k 0) (add-zero at)

module _ {count : List ℕ → ℕ} {os : List ℕ} {at end : ℕ} (p : Counted count os at end) where
  -- one more
  pub counted-more : count (drop end os) ≡ suc (count (drop 1 (drop end os))) → Counted count os at (end + 1)
  counted-more e =
      let b : at ≤ end = p.onward in
      let c : count (drop end os) ≡ suc (count (drop (end + 1) os)) = e ∙ ap (λ (t : List ℕ). suc (count t)) (drop-drop 1 end os) in
      record { onward = omega arith; counted = omega (arith, p.counted) }

  -- no more: all are counted
  pub counted-all : count (drop end os) ≡ 0 → end ≡ at + count (drop at os)
  counted-all z = omega (arith, p.onward, p.counted)

-- ---- the loop that reads digits

-- cutting before a digit more changes nothing: what is cut is the greatest after it too
least_more : (v d : ℕ) → min (min v word_most * 10 + d) word_most ≡ min (v * 10 + d) word_most
least_more v d = omega arith

-- the digits from `at` to `end` are passed, and `value` is their number
pub record Passed (os : List ℕ) (at value end : ℕ) : Type 0 where
  pub digits : Counted digit_count os at end
  pub number : value ≡ min (decimal_value (part at (end - at) os)) word_most

pub passed_none : (os : List ℕ) (at : ℕ) → Passed os at 0 at
unfolding decimal_value
passed_none os at =
    let z : at - at ≡ 0 = omega arith in
    record { digits = counted_none digit_count os at; number = rw z }

module _ (os : List ℕ) (at value end : ℕ) (p : Passed os at value end) where
  -- a digit more
  pub passed-more : (value' : ℕ) → end < length os → digit (get_or os end 0) ≡ true
      → value' ≡ min (value * 10 + (get_or os end 0 - 48)) word_most → Passed os at value' (end + 1)
  passed-more value' h d e =
      let b : at ≤ end = p.digits.onward in
      let place : at + (end - at) ≡ end = omega arith in
      let long : end + 1 - at ≡ end - at + 1 = omega arith in
      let room : at + (end - at) < length os = omega arith in
      let some : 0 < length (drop end os) = simp length-drop (omega arith) in
      let v : decimal_value (part at (end + 1 - at) os) ≡ decimal_value (part at (end - at) os) * 10 + (get_or os end 0 - 48) =
      ap (λ (k : ℕ). decimal_value (part at k os)) long
      ∙ ap decimal_value (part-snoc at (end - at) os 0 room)
      ∙ value-more (part at (end - at) os) (get_or os (at + (end - at)) 0)
      ∙ ap (λ (k : ℕ). decimal_value (part at (end - at) os) * 10 + (get_or os k 0 - 48)) place in
      record {
        digits = counted-more p.digits (count-one (drop end os) some (rw (stands os end) d));
        number = e
            ∙ ap (λ (k : ℕ). min (k * 10 + (get_or os end 0 - 48)) word_most) p.number
            ∙ least_more (decimal_value (part at (end - at) os)) (get_or os end 0 - 48)
            ∙ ap (λ (k : ℕ). min k word_most) (sym v);
      }

  -- no digit stands there: all are passed
  pub passed-all : digit (get_or os end 0) ≡ false → record { end = end; value = value } ≡ number_at at os
  passed-all d =
      let e : end ≡ at + digit_count (drop at os) = counted-all p.digits (count_none (drop end os) (rw (stands os end) d)) in
      let c : end - at ≡ digit_count (drop at os) = omega arith in
      let v : value ≡ min (leading_value (drop at os)) word_most =
      p.number ∙ ap (λ (k : ℕ). min (decimal_value (part at k os)) word_most) c in
      rw (← e, ← v)
