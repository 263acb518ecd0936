-- `listing::write_number` meets its contract: the digits are written, and the octet is stored at the place after them (`then`, `one`).
-- Assumes nothing.
use Prim.Native.Nat.{◌≤◌}
use native.Mathlib.Omega.{arith}
use lib.ListN.{length}
use borrow.Author.Rules.{rules}
use Rattle.listing.proofs.Parts.{one, then}
use Rattle.listing.proofs.write_number.Statement.{statement}
use Rattle.listing.proofs.write_number.Tie as tie

returns : tie.Need-returns
returns c =
    let s = c in
    let h : s.args.at ≤ length s.args.out.now = omega arith in
    then h c.write_up_to_ten-end.ensures (one c.write_up_to_ten-end.result s.args.after
    c.write_up_to_ten-end.new.out (search rules))

pub write_number_spec : {M : Type 1} → statement M
write_number_spec =
    tie.close
    (tie.spec
    (λ c κs. search rules) (λ c. search rules) (λ c. search rules) (λ c. search rules)
    returns)
