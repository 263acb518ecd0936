-- `listing::write_record` meets its contract: the record, its number and its answer, one after the other, are its line (`record-parts`).
-- Here e1 to e3 are these parts, a the arguments. Assumes nothing.
use Prim.Native.Nat.{◌≤◌}
use native.Mathlib.Omega.{arith}
use lib.ListN.{length}
use borrow.Author.Rules.{rules}
use Rattle.listing.proofs.Parts.{then, record-parts}
use Rattle.listing.proofs.write_record.Statement.{statement}
use Rattle.listing.proofs.write_record.Tie as tie

returns : tie.Need-returns
returns c =
    let e3 = c in
    let e2 = e3 in
    let e1 = e2 in
    let a = e1.args in
    let h : a.at ≤ length a.out.now = omega arith in
    rw (record-parts a.«record» a.number a.answer)
    (then h (then h e1.write_number-second.ensures e2.write_number-rest.ensures) e3.write_answer.ensures)

pub write_record_spec : {M : Type 1} → statement M
write_record_spec =
    tie.close
    (tie.spec
    (λ c κs. search rules) (λ c κs. search rules) (λ c κs. search rules) (λ c. search rules)
    returns)
