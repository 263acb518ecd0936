-- `listing::write_reordered` meets its contract: a word, two numbers, a late time and two numbers, one after the other, are the fields of
-- its line (`then`). Here e1 to e6 are these parts, s the start. Assumes nothing.
use Prim.Native.Nat.{◌≤◌}
use native.Mathlib.Omega.{arith}
use mathlib.Core.List.{append_assoc}
use lib.ListN.{length}
use borrow.Author.Rules.{rules}
use Rattle.listing.proofs.Parts.{then}
use Rattle.listing.proofs.write_reordered.Statement.{statement}
use Rattle.listing.proofs.write_reordered.Tie as tie

returns : tie.Need-returns
returns c =
    let e6 = c in
    let e5 = e6 in
    let e4 = e5 in
    let e3 = e4 in
    let e2 = e3 in
    let e1 = e2 in
    let s = e1 in
    let h : s.args.at ≤ length s.args.out.now = omega arith in
    simp append_assoc (simp append_assoc at (then h (then h (then h
    (then h (then h e1.write_word-position.ensures e2.write_number-extent.ensures) e3.write_number-time.ensures)
    e4.write_late_time-offset.ensures) e5.write_number-largest.ensures) e6.write_number.ensures))

pub write_reordered_spec : {M : Type 1} → statement M
write_reordered_spec =
    tie.close
    (tie.spec (λ c κs. search rules) (λ c κs. search rules) (λ c κs. search rules) (λ c κs. search rules)
    (λ c κs. search rules) (λ c κs. search rules) (λ c. search rules)
    returns)
