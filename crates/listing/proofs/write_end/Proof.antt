-- `listing::write_end` meets its contract: a word and six numbers, one after the other, are the fields of its line (`then`). Here e1 to e7
-- are these parts, s the start. Assumes nothing.
use Prim.Native.Nat.{◌≤◌}
use native.Mathlib.Omega.{arith}
use mathlib.Core.List.{append_assoc}
use lib.ListN.{length}
use borrow.Author.Rules.{rules}
use Rattle.listing.specs.Lines.{end_line}
use Rattle.listing.proofs.Parts.{then}
use Rattle.listing.proofs.write_end.Statement.{statement}
use Rattle.listing.proofs.write_end.Tie as tie

returns : tie.Need-returns
unfolding end_line
returns c =
    let e7 = c in
    let e6 = e7 in
    let e5 = e6 in
    let e4 = e5 in
    let e3 = e4 in
    let e2 = e3 in
    let e1 = e2 in
    let s = e1 in
    let h : s.args.at ≤ length s.args.out.now = omega arith in
    simp append_assoc (simp append_assoc at (then h (then h (then h
    (then h (then h (then h e1.write_word-arrived.ensures e2.write_number-reordered.ensures) e3.write_number-duplicates.ensures)
    e4.write_number-closed.ensures) e5.write_number-squares.ensures) e6.write_number-current.ensures) e7.write_number.ensures))

pub write_end_spec : {M : Type 1} → statement M
write_end_spec =
    tie.close
    (tie.spec (λ c κs. search rules) (λ c κs. search rules) (λ c κs. search rules) (λ c κs. search rules)
    (λ c κs. search rules) (λ c κs. search rules) (λ c κs. search rules) (λ c. search rules)
    returns)
