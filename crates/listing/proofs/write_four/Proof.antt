-- `listing::write_four` meets its contract: one pair of digits follows the other (`then-within`). Here e1 and e2 are the places of these
-- parts. Assumes nothing.
use borrow.Author.Rules.{rules}
use Rattle.listing.proofs.Parts.{then-within}
use Rattle.listing.proofs.write_four.Statement.{statement}
use Rattle.listing.proofs.write_four.Tie as tie

returns : tie.Need-returns
returns c =
    let e2 = c in
    let e1 = e2 in
    then-within 4 e1.requires.0 e1.write_pair-half.ensures e2.write_pair.ensures

pub write_four_spec : {M : Type 1} → statement M
write_four_spec = tie.close (tie.spec (λ c κs. search rules) (λ c κs. search rules) (λ c. search rules) returns)
