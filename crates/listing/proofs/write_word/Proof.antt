-- `listing::write_word` meets its contract: the word is put, and the octet is stored after it (`with-after`). Assumes nothing.
use borrow.Author.Rules.{rules}
use Rattle.listing.proofs.Parts.{with-after}
use Rattle.listing.proofs.write_word.Statement.{statement}
use Rattle.listing.proofs.write_word.Tie as tie

returns : tie.Need-returns
returns c =
    let a = c.args in
    rw c.put_octets.ensures (with-after a.at a.word.now a.after a.out.now (search rules))

pub write_word_spec : {M : Type 1} → statement M
write_word_spec =
    tie.close (tie.spec (λ c κs. search rules) (λ c. search rules) (λ c. search rules) (λ c. search rules) (λ c. search rules) returns)
