-- `listing::write_pair` meets its contract: one digit follows the other (`then-within`). Here e1 and e2 are the places of these parts.
-- Assumes nothing.
use borrow.Author.Rules.{rules}
use Rattle.listing.proofs.Parts.{then-within}
use Rattle.listing.proofs.write_pair.Statement.{statement}
use Rattle.listing.proofs.write_pair.Tie as tie

returns : tie.Need-returns
returns c =
    let e2 = c in
    let e1 = e2 in
    then-within 2 e1.requires.0 e1.write_digit-second.ensures e2.write_digit.ensures

pub write_pair_spec : {M : Type 1} → statement M
write_pair_spec = tie.close (tie.spec (λ c κs. search rules) (λ c κs. search rules) (λ c. search rules) returns)
