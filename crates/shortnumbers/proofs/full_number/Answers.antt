-- The way up finds the number of the definition.
use Rattle.std.proofs.Common.{◌∙◌}
use borrow.Author.Tests.{le-ltb}
use Rattle.shortnumbers.specs.Number.{number_found}
use Rattle.shortnumbers.proofs.Numbers.{up-found}
use Rattle.shortnumbers.proofs.full_number.Goals as goal

pub returns-then-range-x-clause-number : goal.returns-then-range-x-clause-number
unfolding number_found
returns-then-range-x-clause-number c = rw (le-ltb _ _ c.if-range-x.true)

pub returns-clause-number : goal.returns-clause-number
returns-clause-number c =
    c.saturating_sub.ensures
    ∙ up-found c.args.range (record { least = c.requires.0.least; even = c.requires.0.even }) c.args.greatest c.args.short
    c.if-range-x.false
