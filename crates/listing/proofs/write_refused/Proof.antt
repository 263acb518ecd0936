-- `listing::write_refused` meets its contract: a word and a number, one after the other, are the fields of its line (`two_fields`). Here e1
-- and e2 are the places of these parts, s is the start. Assumes nothing.
use borrow.Author.Rules.{rules}
use Rattle.listing.specs.Lines.{number, refused_line}
use Rattle.listing.specs.Words.{refused_word}
use Rattle.listing.proofs.Parts.{two_fields}
use Rattle.listing.proofs.write_refused.Statement.{statement}
use Rattle.listing.proofs.write_refused.Tie as tie

returns : tie.Need-returns
unfolding refused_line
returns c =
    let e2 = c in
    let e1 = e2 in
    let s = e1 in
    two_fields 19 refused_word (number s.args.refusal) s.requires e1.write_word-number.ensures e2.write_number.ensures

pub write_refused_spec : {M : Type 1} → statement M
write_refused_spec =
    tie.close
    (tie.spec (λ c κs. search rules) (λ c κs. search rules) (λ c. search rules)
    returns)
