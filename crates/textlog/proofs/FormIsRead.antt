-- What has the form of a line, and fits, is read, whatever follows it (u). The digits of the form are those with which the text begins: the
-- octet after them, a line feed, a mark or a semicolon, is no digit (`begins-with`). So each test of the reading goes the way of the form,
-- and what follows is read in turn: decimals, a time, a line.
-- Here n is the number, τ the time, w the milliseconds, ds the decimals, at the offset, e the end. Assumes nothing.
use Prim.Native.Nat.{ℕ, ◌+◌, ◌*◌, ◌≤◌}
use native.Mathlib.Omega.{arith}
use mathlib.Core.Path.{◌≡◌}
use mathlib.Core.List.{List, [], ◌∷◌, ◌++◌, append_assoc}
use borrow.Author.Tests.{le-leb, le-ltb, ne_eqb}
use lib.ListN.{length, length-append}
use Rattle.octets.specs.Text.{line_feed}
use Rattle.decimal.specs.Decimal.{decimal_value}
use Rattle.rfc4737.proofs.Due.{not-outside}
use Rattle.textlog.specs.Form.{semicolon, number_most, time_most, Digits, thousandths, Time, whole, parted, Line, line}
use Rattle.textlog.specs.Decode.{read, in_range, fraction_in, time_in, line_in}
use Rattle.textlog.proofs.LeadingDigits.{feed-no-digit, semicolon-no-digit, some-digits, begins-with, mark-passes}

range-complete : (n τ e : ℕ) → τ ≤ time_most → in_range n τ e ≡ read n τ e
unfolding in_range
range-complete n τ e h = rw (le-leb τ time_most h)

fraction-complete : (n w at : ℕ) {ds : List ℕ} (u : List ℕ) → Digits ds → length ds ≤ 3 → 1000 * w + thousandths ds ≤ time_most
    → fraction_in n w at (ds ++ (line_feed ∷ u)) ≡ read n (1000 * w + thousandths ds) (at + length ds + 1)
unfolding fraction_in
fraction-complete n w at {ds} u d few fits =
    let m = begins-with d line_feed u feed-no-digit in
    let s = some-digits d in
    rw (m.digits, m.octet, m.count, not-outside 1 3 (length ds) (omega arith) few) (range-complete n _ _ fits)

time-complete : (n at : ℕ) {ts : List ℕ} {τ : ℕ} (u : List ℕ) → Time ts τ → τ ≤ time_most
    → time_in n at (ts ++ (line_feed ∷ u)) ≡ read n τ (at + length ts + 1)
unfolding time_in
time-complete n at u (whole {ms} d) fits =
    let m = begins-with d line_feed u feed-no-digit in
    let s = some-digits d in
    rw (m.digits, m.octet, m.count, ne_eqb (length ms) 0 (λ e. omega arith)) (range-complete n _ _ fits)
time-complete n at u (parted {ms} {ds} {o} d k f few) fits =
    let p = mark-passes k in
    let m = begins-with d o (ds ++ (line_feed ∷ u)) p.no_digit in
    let s = some-digits d in
    let l : at + length ms + 1 + length ds + 1 ≡ at + length (ms ++ (o ∷ ds)) + 1 = omega (arith, length-append ms (o ∷ ds)) in
    rw (
      append_assoc ms (o ∷ ds) (line_feed ∷ u),
      m.digits,
      m.octet,
      m.rest,
      m.count,
      ne_eqb (length ms) 0 (λ e. omega arith),
      p.no_feed,
      p.passes,
      ← l,
    )
    (fraction-complete n (decimal_value ms) (at + length ms + 1) u f few fits)

pub complete : (at : ℕ) {text : List ℕ} {n τ : ℕ} (u : List ℕ) → Line text n τ → n ≤ number_most → τ ≤ time_most
    → line_in at (text ++ u) ≡ read n τ (at + length text)
unfolding line_in
complete at u (line {ns} {ts} {time} d t) h k =
    let m = begins-with d semicolon (ts ++ (line_feed ∷ u)) semicolon-no-digit in
    let s = some-digits d in
    let l : at + length ns + 1 + length ts + 1 ≡ at + length (ns ++ (semicolon ∷ (ts ++ (line_feed ∷ [])))) =
    omega (arith, length-append ns (semicolon ∷ (ts ++ (line_feed ∷ []))), length-append ts (line_feed ∷ [])) in
    rw (
      append_assoc ns (semicolon ∷ (ts ++ (line_feed ∷ []))) u,
      append_assoc ts (line_feed ∷ []) u,
      m.digits,
      m.octet,
      m.rest,
      m.count,
      ne_eqb (length ns) 0 (λ e. omega arith),
      le-ltb number_most (decimal_value ns) h,
      ← l,
    )
    (time-complete (decimal_value ns) (at + length ns + 1) u t k)
