-- `listing::write_digits` meets its contract: the digits are put, and the octet is stored after them (`with-after`). Assumes nothing.
use borrow.Author.Rules.{rules}
use Rattle.decimal.specs.Decimal.{decimal_of}
use Rattle.listing.proofs.Parts.{with-after}
use Rattle.listing.proofs.write_digits.Statement.{statement}
use Rattle.listing.proofs.write_digits.Tie as tie

returns : tie.Need-returns
returns c =
    let a = c.args in
    let digits = c.put_decimal.ensures in
    rw (digits.0, digits.1) (with-after a.at (decimal_of a.v) a.after a.out.now (search rules))

pub write_digits_spec : {M : Type 1} → statement M
write_digits_spec =
    tie.close
    (tie.spec (λ c κs. search rules) (λ c. search rules) (λ c. search rules) (λ c. search rules) (λ c. search rules) returns)
