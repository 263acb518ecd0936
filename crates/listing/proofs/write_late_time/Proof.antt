-- `listing::write_late_time` meets its contract: at most a minus and then the digits of the amount, at most 20 for a number of 64 bits,
-- are the late time (`time-parts`). Assumes nothing.
use Prim.Native.Nat.{◌≤◌}
use native.Mathlib.Omega.{arith}
use lib.ListN.{length}
use borrow.Author.Rules.{rules}
use Rattle.decimal.proofs.Laws.{at-most-20}
use Rattle.listing.proofs.Parts.{weaken, then, time-parts}
use Rattle.listing.proofs.write_late_time.Statement.{statement}
use Rattle.listing.proofs.write_late_time.Tie as tie

write-digits-requires : tie.Need-write_digits-requires
write-digits-requires c κs =
    let w = c.write_sign-digits.ensures in
    omega (arith, w.place, w.within, at-most-20 c.amount.result (omega arith))

returns : tie.Need-returns
returns c =
    let e2 = c in
    let e1 = e2 in
    let s = e1 in
    let h : s.args.at ≤ length s.args.out.now = omega arith in
    let amount = e2.amount in
    rw (time-parts s.args.late amount.result s.args.after amount.ensures)
    (weaken 22 (omega (arith, at-most-20 amount.result (omega arith)))
    (then h e1.write_sign-digits.ensures e2.write_digits.ensures))

pub write_late_time_spec : {M : Type 1} → statement M
write_late_time_spec =
    tie.close
    (tie.spec (λ c κs. search rules) (λ c κs. search rules) write-digits-requires (λ c. search rules) returns)
