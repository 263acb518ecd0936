-- What is read at the offsets of a log: a law for each `return` of `line_at`, `time_at` and `fraction_at`. `number_at` gave digits that
-- begin at `at`. By its contract their end, their number, the octet after them and what follows are those of the text that begins there
-- (`ends` to `place`). So the tests of the code, one after the other, are those of `line_in`, `time_in` and `fraction_in`. A number over 64
-- bits is read as the greatest, and this loses nothing, since both are over every range (`range-least`). Here n or number is the sequence
-- number, v or whole the milliseconds, f the microseconds after them, e where the line ends, t a text, ds the decimals; r is what the code
-- returns; s, h, o, l and m are the tests that were passed. Assumes nothing.
use Prim.Native.Nat.{ℕ, ◌+◌, ◌*◌, ◌-◌, ◌^◌, ◌≤◌, ◌<◌, min}
use native.Mathlib.Omega.{arith}
use mathlib.Core.Bool.{Bool, true, false}
use mathlib.Core.Path.{◌≡◌, refl, sym, ap, ap₂, ◌∙◌}
use mathlib.Core.List.{List}
use borrow.Author.Tests.{eq-eqb, ne_eqb, lt-ltb, le-ltb, le-leb, lt-leb, leb-true, leb-false}
use lib.Dec.{leb}
use lib.ListN.{length, get_or, drop}
use lib.Seq.{get_or-drop, drop-drop}
use Rattle.octets.specs.Text.{line_feed}
use Rattle.decimal.specs.Decimal.{decimal_value}
use Rattle.decimal.specs.Reading.{digit_count, leading, leading_value, word_most, number_at}
use Rattle.decimal.specs.declared.reading.Number.{Number}
use Rattle.rfc4737.specs.Refusals.{outside}
use Rattle.rfc4737.proofs.Due.{not-outside}
use Rattle.std.specs.Prelude.{Option, None}
use Rattle.textlog.specs.Form.{semicolon, number_most, time_most, Digits, one, more}
use Rattle.textlog.specs.Decode.{is_decimal_mark, octet_after, text_after, in_range, fraction_in, time_in, line_in}
use Rattle.textlog.specs.declared.reading.ReadLine.{ReadLine}
use Rattle.textlog.proofs.LeadingDigits.{some-digits, digits-lead, begins}

-- ---- numbers

-- more than three
outside-over : (n : ℕ) → 3 < n → outside 1 3 n ≡ true
unfolding outside
outside-over n h = simp (le-leb 1 n (omega arith), lt-leb n 3 h)

-- the number of at most three digits
below-1000 : {ds : List ℕ} → Digits ds → length ds ≤ 3 → decimal_value ds < 1000
unfolding decimal_value
below-1000 (one h k) f = omega arith
below-1000 (more h k (one h2 k2)) f = omega arith
below-1000 (more h k (more h2 k2 (one h3 k3))) f = omega arith
below-1000 (more h k (more h2 k2 (more h3 k3 d))) f = absurd (omega (arith, some-digits d))

-- whole milliseconds over 64 bits are over the range, and so is the greatest number of 64 bits, as which they are read
range-least : (n v f e : ℕ) → in_range n (1000 * min v word_most + f) e ≡ in_range n (1000 * v + f) e
unfolding in_range
range-least n v f e = go (leb v word_most) refl
  where
    go : (b : Bool) → leb v word_most ≡ b → in_range n (1000 * min v word_most + f) e ≡ in_range n (1000 * v + f) e
    go true h =
        let l = leb-true v word_most h in
        let q : min v word_most ≡ v = omega arith in
        ap (λ (k : ℕ). in_range n (1000 * k + f) e) q
    go false h =
        let g = leb-false v word_most h in
        rw (lt-leb (1000 * min v word_most + f) time_most (omega arith), lt-leb (1000 * v + f) time_most (omega arith))

-- so the decimals' line is the same too
fraction-least : (n v at : ℕ) (t : List ℕ) → fraction_in n (min v word_most) at t ≡ fraction_in n v at t
unfolding fraction_in
fraction-least n v at t = rw (range-least n v)

-- ---- digits that are read at a place of a log

module _ (log : List ℕ) (at : ℕ) (digits : Number) (e : digits ≡ number_at at log) where
  -- where they end
  ends : digits.end ≡ at + digit_count (drop at log)
  ends = ap (λ (x : Number). x.end) e

  -- their number
  value : digits.value ≡ min (leading_value (drop at log)) word_most
  value = ap (λ (x : Number). x.value) e

  -- the octet after them
  here : octet_after (drop at log) ≡ get_or log digits.end 0
  here = get_or-drop at log (digit_count (drop at log)) 0 ∙ ap (λ (k : ℕ). get_or log k 0) (sym ends)

  -- what follows it
  follows : text_after (drop at log) ≡ drop (digits.end + 1) log
  follows =
      let p : at + (digit_count (drop at log) + 1) ≡ digits.end + 1 = omega (arith, ends) in
      drop-drop (digit_count (drop at log) + 1) at log ∙ ap (λ (k : ℕ). drop k log) p

  -- its place
  place : at + digit_count (drop at log) + 1 ≡ digits.end + 1
  place = omega (arith, ends)

  -- they do not end before they begin
  pub onward : at ≤ digits.end
  onward = omega (arith, ends)

  -- ---- the number

  -- there is no digit
  pub line-none : digits.end ≡ at → None ≡ line_in at (drop at log)
  unfolding line_in
  line-none h = rw (eq-eqb (digit_count (drop at log)) 0 (omega (arith, ends)))

  module _ (s : digits.end ≡ at → ⊥) where
    some : digit_count (drop at log) ≡ 0 → ⊥
    some z = s (omega (arith, ends))

    -- the number is over its range
    pub line-over : number_most < digits.value → None ≡ line_in at (drop at log)
    unfolding line_in
    line-over h =
        rw (ne_eqb (digit_count (drop at log)) 0 some, lt-ltb number_most (leading_value (drop at log)) (omega (arith, value)))

    module _ (h : digits.value ≤ number_most) where
      under : leading_value (drop at log) ≤ number_most
      under = omega (arith, value)

      -- no semicolon follows
      pub line_other : (get_or log digits.end 0 ≡ semicolon → ⊥) → None ≡ line_in at (drop at log)
      unfolding line_in
      line_other o =
          rw (
            ne_eqb (digit_count (drop at log)) 0 some,
            le-ltb number_most (leading_value (drop at log)) under,
            here,
            ne_eqb (get_or log digits.end 0) semicolon o,
          )

      -- the time decides
      pub line-time : get_or log digits.end 0 ≡ semicolon → {r : Option ReadLine}
          → r ≡ time_in digits.value (digits.end + 1) (drop (digits.end + 1) log) → r ≡ line_in at (drop at log)
      unfolding line_in
      line-time o q =
          let w : leading_value (drop at log) ≡ digits.value = omega (arith, value) in
          q ∙ sym (rw (
            ne_eqb (digit_count (drop at log)) 0 some,
            le-ltb number_most (leading_value (drop at log)) under,
            here,
            eq-eqb (get_or log digits.end 0) semicolon o,
            place,
            follows,
            w,
          ))

  -- ---- the time

  module _ (number : ℕ) where
    -- there is no digit
    pub time-none : digits.end ≡ at → None ≡ time_in number at (drop at log)
    unfolding time_in
    time-none h = rw (eq-eqb (digit_count (drop at log)) 0 (omega (arith, ends)))

    module _ (s : digits.end ≡ at → ⊥) where
      -- a line feed follows
      pub time-ends : get_or log digits.end 0 ≡ line_feed → {r : Option ReadLine}
          → r ≡ in_range number (1000 * digits.value + 0) (digits.end + 1) → r ≡ time_in number at (drop at log)
      unfolding time_in
      time-ends o q =
          let z : 1000 * leading_value (drop at log) + 0 ≡ 1000 * leading_value (drop at log) = omega arith in
          q
          ∙ ap (λ (k : ℕ). in_range number (1000 * k + 0) (digits.end + 1)) value
          ∙ range-least number (leading_value (drop at log)) 0 (digits.end + 1)
          ∙ ap (λ (k : ℕ). in_range number k (digits.end + 1)) z
          ∙ sym (rw (ne_eqb (digit_count (drop at log)) 0 (some s), here, eq-eqb (get_or log digits.end 0) line_feed o, place))

      module _ (o : get_or log digits.end 0 ≡ line_feed → ⊥) where
        -- nor does a mark
        pub time-other : is_decimal_mark (get_or log digits.end 0) ≡ false → None ≡ time_in number at (drop at log)
        unfolding time_in
        time-other m =
            rw (ne_eqb (digit_count (drop at log)) 0 (some s), here, ne_eqb (get_or log digits.end 0) line_feed o, m)

        -- a mark does: the decimals decide
        pub time-parted : is_decimal_mark (get_or log digits.end 0) ≡ true → {r : Option ReadLine}
            → r ≡ fraction_in number digits.value (digits.end + 1) (drop (digits.end + 1) log) → r ≡ time_in number at (drop at log)
        unfolding time_in
        time-parted m q =
            q
            ∙ ap (λ (k : ℕ). fraction_in number k (digits.end + 1) (drop (digits.end + 1) log)) value
            ∙ fraction-least number (leading_value (drop at log)) (digits.end + 1) (drop (digits.end + 1) log)
            ∙ sym (rw (ne_eqb (digit_count (drop at log)) 0 (some s), here, ne_eqb (get_or log digits.end 0) line_feed o, m, place, follows))

    -- ---- the decimals

    module _ (whole : ℕ) where
      -- there is none
      pub fraction-none : digits.end - at ≡ 0 → None ≡ fraction_in number whole at (drop at log)
      unfolding fraction_in outside
      fraction-none h =
          let z : digit_count (drop at log) ≡ 0 = omega (arith, ends) in
          rw z

      -- there are over three
      pub fraction-many : 3 < digits.end - at → None ≡ fraction_in number whole at (drop at log)
      unfolding fraction_in
      fraction-many h = rw (outside-over (digit_count (drop at log)) (omega (arith, ends)))

      module _ (l : digits.end - at ≡ 0 → ⊥) (m : digits.end - at ≤ 3) where
        there : 1 ≤ digit_count (drop at log)
        there = omega (arith, ends, l)

        few : outside 1 3 (digit_count (drop at log)) ≡ false
        few = not-outside 1 3 (digit_count (drop at log)) there (omega (arith, ends))

        -- no line feed follows
        pub fraction-other : (get_or log digits.end 0 ≡ line_feed → ⊥) → None ≡ fraction_in number whole at (drop at log)
        unfolding fraction_in
        fraction-other o = rw (few, here, ne_eqb (get_or log digits.end 0) line_feed o)

        module _ (o : get_or log digits.end 0 ≡ line_feed) where
          long : length (leading (drop at log)) ≡ digit_count (drop at log)
          long = (begins (drop at log) line_feed (here ∙ o) (omega arith)).long

          -- their number is below 1,000, so it is exact
          pub small : (digits.value ≡ leading_value (drop at log)) × (digits.value < 1000)
          small =
              let d = digits-lead (drop at log) there in
              let b : leading_value (drop at log) < 1000 = below-1000 d (rw long (omega (arith, ends))) in
              (omega (arith, value), omega (arith, value))

          -- one does: the line is read
          pub fraction-ends : {r : Option ReadLine} (f : ℕ) → f ≡ digits.value * 10 ^ (3 - (digits.end - at))
              → r ≡ in_range number (1000 * whole + f) (digits.end + 1) → r ≡ fraction_in number whole at (drop at log)
          unfolding fraction_in
          fraction-ends f w q =
              let n : digits.end - at ≡ length (leading (drop at log)) = omega (arith, long, ends) in
              q
              ∙ ap (λ (k : ℕ). in_range number (1000 * whole + k) (digits.end + 1)) (w ∙ ap₂ (λ (a b : ℕ). a * 10 ^ (3 - b)) small.0 n)
              ∙ sym (rw (few, here, eq-eqb (get_or log digits.end 0) line_feed o, place))
