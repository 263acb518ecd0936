-- `listing::write_up_to_ten` meets its contract. Below 10,000 it is a number of few digits. Else it is such a number with one four after
-- it (`more-fours`) or two (`more-eights`), whose parts follow each other (`then`). A number of 32 bits has at most ten digits. Here s is
-- the start, i the last test, and e1 to e3 are parts one after the other. Assumes nothing.
use Prim.Native.Nat.{◌/◌, ◌≤◌}
use mathlib.Core.Path.{sym}
use native.Mathlib.Omega.{arith}
use lib.ListN.{length}
use borrow.Author.Rules.{rules}
use Rattle.decimal.specs.Decimal.{decimal_of}
use Rattle.decimal.proofs.Laws.{at_most}
use Rattle.listing.proofs.Fours.{more-fours, more-eights}
use Rattle.listing.proofs.Parts.{named, then}
use Rattle.listing.proofs.write_up_to_ten.Statement.{statement}
use Rattle.listing.proofs.write_up_to_ten.Tie as tie

returns-2 : tie.Need-returns-then-v-lt100000000
returns-2 c =
    let e2 = c in
    let e1 = e2 in
    let i = e1 in
    let s = i in
    let v = s.args.v in
    let h : s.args.at ≤ length s.args.out.now = omega arith in
    named 10 (sym (more-fours v i.if-v-lt10000.false)) (at_most 10 v (omega arith) (omega arith))
    (then h e1.write_up_to_four-low.ensures e2.write_four.ensures)

write-four-requires-3 : tie.Need-write_four-requires-2
write-four-requires-3 c κs =
    let e2 = c in
    let e1 = e2 in
    let v = e1.args.v in
    let few : length (decimal_of (v / 100000000)) ≤ 2 = at_most 2 (v / 100000000) (omega arith) (omega arith) in
    (omega (arith, few, e1.write_up_to_four-middle.ensures.place, e2.write_four-low.ensures.place), omega arith)

returns-3 : tie.Need-returns
returns-3 c =
    let e3 = c in
    let e2 = e3 in
    let e1 = e2 in
    let i = e1 in
    let s = i in
    let v = s.args.v in
    let h : s.args.at ≤ length s.args.out.now = omega arith in
    named 10 (sym (more-eights v i.if-v-lt100000000.false)) (at_most 10 v (omega arith) (omega arith))
    (then h (then h e1.write_up_to_four-middle.ensures e2.write_four-low.ensures) e3.write_four-2.ensures)

pub write_up_to_ten_spec : {M : Type 1} → statement M
write_up_to_ten_spec =
    tie.close
    (tie.spec
    (λ c κs. search rules) (λ c. search rules) (λ c. search rules) (λ c κs. search rules) (λ c κs. search rules)
    (λ c. search rules)
    returns-2
    (λ c κs. search rules) (λ c κs. search rules)
    write-four-requires-3
    (λ c. search rules)
    returns-3)
