-- How long the lines are. A line is words and numbers one after the other, so that its length is the sum of theirs (`length-append`). The
-- words have their own lengths; a number has at most the digits that its bound allows (decimal's `at_most`): four (`small`), but nine for
-- a byte offset, eight for the sum of squares, ten for a refusal, and 20 for a late time, or four and a minus (`time-octets`).
-- Here k and a are K and the arrivals, r is a record, n its number, f the figures of its answer, c the counts and h their bounds. Assumes
-- nothing.
use Prim.Native.Nat.{ℕ, ◌^◌, ◌≤◌, ◌<◌}
use native.Mathlib.Omega.{arith}
use mathlib.Core.Bool.{Bool, true, false, cond}
use mathlib.Core.List.{[], ◌∷◌}
use lib.Dec.{ltb}
use lib.ListN.{length, length-append}
use Rattle.decimal.proofs.Laws.{at_most, at-most-20}
use Rattle.rfc4737.specs.declared.Answer.{Answer}
use Rattle.rfc4737.specs.declared.Answer.TheVariants.{Duplicate, InOrder, Reordered}
use Rattle.rfc4737.specs.declared.LateTime.{LateTime}
use Rattle.rfc4737.specs.declared.LateTime.TheVariants.{After, Before}
use Rattle.rfc4737.specs.declared.Counts.{Counts}
use Rattle.listing.specs.Words.{minus}
use Rattle.listing.specs.Lines.{number, sign, late_time, header_line, record_line, end_line, refused_line}
use Rattle.listing.specs.DigitBounds.{FourDigits, TimeWithin, AnswerWithin, CountsWithin}

-- a number of at most four digits
small : (n : ℕ) → FourDigits n → length (number n) ≤ 4
small n h = at_most 4 n (omega arith) h

-- at most a minus
sign-octets : (t : LateTime) → length (sign t) ≤ 1
sign-octets (After t) = omega arith
sign-octets (Before t) = go (ltb 0 t)
  where
    go : (u : Bool) → length (cond u (minus ∷ []) []) ≤ 1
    go true = omega arith
    go false = omega arith

-- a late time: at most 20 digits; or a minus and at most four
time-octets : (t : LateTime) → TimeWithin t → length (late_time t) ≤ 20
unfolding late_time
time-octets (After t) h = at-most-20 t h
time-octets (Before t) h = simp length-append (omega (arith, sign-octets (Before t), small t (omega arith)))

-- the first line
pub header-octets : (k a : ℕ) → FourDigits k → FourDigits a → length (header_line k a) ≤ 24
unfolding header_line
header-octets k a hk ha = simp length-append (omega (arith, small k hk, small a ha))

-- a record's line
pub record-octets : (r n : ℕ) (a : Answer) → FourDigits r → FourDigits n → AnswerWithin a → length (record_line r n a) ≤ 61
unfolding record_line
record-octets r n (Duplicate f) hr hn h = simp length-append (omega (arith, small r hr, small n hn, small f.first h))
record-octets r n (InOrder f) hr hn h =
    simp length-append (omega (arith, small r hr, small n hn, small f.position h.0, small f.jump h.1))
record-octets r n (Reordered f) hr hn h =
    simp length-append
    (omega (
      arith,
      small r hr,
      small n hn,
      small f.position h.position,
      small f.extent h.extent,
      time-octets f.late h.late,
      at_most 9 f.offset (omega arith) (omega (arith, h.offset)),
      small f.largest h.largest,
    ))

-- the last line
pub end-octets : (c : Counts) → CountsWithin c → length (end_line c) ≤ 38
unfolding end_line
end-octets c h =
    simp length-append
    (omega (
      arith,
      small c.arrived h.arrived,
      small c.reordered h.reordered,
      small c.duplicates h.duplicates,
      small c.runs.closed h.closed,
      at_most 8 c.runs.squares (omega arith) (omega (arith, h.squares)),
      small c.runs.current h.current,
    ))

-- the line of a refused input, whatever the number
pub refused-octets : (n : ℕ) → n < 2 ^ 32 → length (refused_line n) ≤ 19
unfolding refused_line
refused-octets n h = simp length-append (omega (arith, at_most 10 n (omega arith) (omega arith)))
