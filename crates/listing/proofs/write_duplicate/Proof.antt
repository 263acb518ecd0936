-- `listing::write_duplicate` meets its contract: a word and a number, one after the other, are the fields of its line (`two_fields`).
-- Here e1 and e2 are the places of these parts, s is the start. Assumes nothing.
use borrow.Author.Rules.{rules}
use Rattle.listing.specs.Words.{copy_word}
use Rattle.listing.specs.Lines.{number}
use Rattle.listing.proofs.Parts.{two_fields}
use Rattle.listing.proofs.write_duplicate.Statement.{statement}
use Rattle.listing.proofs.write_duplicate.Tie as tie

returns : tie.Need-returns
returns c =
    let e2 = c in
    let e1 = e2 in
    let s = e1 in
    two_fields 16 copy_word (number s.args.figures.first) s.requires e1.write_word-first.ensures e2.write_number.ensures

pub write_duplicate_spec : {M : Type 1} → statement M
write_duplicate_spec =
    tie.close
    (tie.spec (λ c κs. search rules) (λ c κs. search rules) (λ c. search rules)
    returns)
