-- `summary::parts::write_column` meets its contract: a number stands after the spaces that its digits leave (`column-spaces`). Assumes
-- nothing.
use Rattle.std.proofs.Common.{◌++◌, List, ℕ, length, take, replicate, ap, ◌∙◌, append_assoc, length-append, length-take, arith}
use Rattle.decimal.specs.Decimal.{decimal_of}
use Rattle.listing.specs.Words.{space}
use Rattle.summary.proofs.Pieces.{column-spaces}
use Rattle.summary.proofs.parts.write_column.Goals as goal

pub returns-clause-written : goal.returns-clause-written
returns-clause-written c =
    let v = c.args.v in
    let e = column-spaces c.args.width v _ c.saturating_sub-spaces.result c.requires.0 c.count.ensures c.saturating_sub-spaces.ensures in
    let most = length-take c.saturating_sub-spaces.result (replicate 16 space) in
    let word = c.word.ensures.written (omega (arith, most)) in
    c.number.ensures.written (omega (arith, most, ap length word, length-append c.args.out.now (take c.saturating_sub-spaces.result (replicate 16 space))))
    ∙ ap (λ (l : List ℕ). l ++ decimal_of v) word ∙ rw append_assoc (ap (λ (l : List ℕ). c.args.out.now ++ l) e)
