-- `listing::write_header` meets its contract: two words, each with its number, are the fields of its line (`then`). Here e1 to e4 are these
-- parts, s the start. Assumes nothing.
use Prim.Native.Nat.{◌≤◌}
use native.Mathlib.Omega.{arith}
use mathlib.Core.List.{append_assoc}
use lib.ListN.{length}
use borrow.Author.Rules.{rules}
use Rattle.listing.specs.Lines.{header_line}
use Rattle.listing.proofs.Parts.{then}
use Rattle.listing.proofs.write_header.Statement.{statement}
use Rattle.listing.proofs.write_header.Tie as tie

returns : tie.Need-returns
unfolding header_line
returns c =
    let e4 = c in
    let e3 = e4 in
    let e2 = e3 in
    let e1 = e2 in
    let s = e1 in
    let h : s.args.at ≤ length s.args.out.now = omega arith in
    simp append_assoc (simp append_assoc at (then h (then h (then h e1.write_word-sent.ensures e2.write_number-word.ensures)
    e3.write_word-arrivals.ensures) e4.write_number.ensures))

pub write_header_spec : {M : Type 1} → statement M
write_header_spec =
    tie.close
    (tie.spec (λ c κs. search rules) (λ c κs. search rules) (λ c κs. search rules)
    (λ c κs. search rules) (λ c. search rules)
    returns)
