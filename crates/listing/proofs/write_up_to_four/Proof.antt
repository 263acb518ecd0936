-- `listing::write_up_to_four` meets its contract: each return is one number of digits, one to four, and what is written are that many
-- (`one-digit` to `four-digits`). Here s is the start, i the last test, e1 and e2 are parts one after the other. Assumes nothing.
use Prim.Native.Nat.{◌≤◌}
use mathlib.Core.Path.{sym}
use native.Mathlib.Omega.{arith}
use lib.ListN.{length}
use borrow.Author.Rules.{rules}
use Rattle.decimal.proofs.Laws.{one-digit, at_most}
use Rattle.listing.proofs.Fours.{two_digits, three-digits, four-digits}
use Rattle.listing.proofs.Parts.{named, then}
use Rattle.listing.proofs.write_up_to_four.Statement.{statement}
use Rattle.listing.proofs.write_up_to_four.Tie as tie

returns : tie.Need-returns-then-v-lt10
returns c =
    let s = c in
    let v = s.args.v in
    named 4 (sym (one-digit v c.if-v-lt10.true)) (at_most 4 v (omega arith) (omega (arith, s.requires.1)))
    c.write_digit.ensures

returns-2 : tie.Need-returns-then-v-lt100
returns-2 c =
    let i = c in
    let s = i in
    let v = s.args.v in
    named 4 (sym (two_digits v i.if-v-lt10.false i.if-v-lt100.true)) (at_most 4 v (omega arith) (omega (arith, s.requires.1)))
    c.write_pair.ensures

returns-3 : tie.Need-returns-then-v-lt1000
returns-3 c =
    let e2 = c in
    let e1 = e2 in
    let i = e1 in
    let s = i in
    let v = s.args.v in
    let h : s.args.at ≤ length s.args.out.now = omega arith in
    named 4 (sym (three-digits v i.if-v-lt100.false i.if-v-lt1000.true)) (at_most 4 v (omega arith) (omega (arith, s.requires.1)))
    (then h e1.write_digit-rest.ensures e2.write_pair-then-v-lt1000.ensures)

returns-4 : tie.Need-returns
returns-4 c =
    let i = c in
    let s = i in
    let v = s.args.v in
    named 4 (sym (four-digits v i.if-v-lt1000.false s.requires.1)) (at_most 4 v (omega arith) (omega (arith, s.requires.1)))
    c.write_four.ensures

pub write_up_to_four_spec : {M : Type 1} → statement M
write_up_to_four_spec =
    tie.close
    (tie.spec
    (λ c κs. search rules) (λ c. search rules)
    returns
    (λ c κs. search rules) (λ c. search rules)
    returns-2
    (λ c κs. search rules) (λ c κs. search rules) (λ c. search rules)
    returns-3
    (λ c κs. search rules) (λ c. search rules)
    returns-4)
