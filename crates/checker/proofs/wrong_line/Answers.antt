-- `checker::wrong_line` meets its contract: there are at most as many line feeds as octets (`feeds-take-le`), so the number of the line
-- fits. Assumes nothing.
use Rattle.std.proofs.Common.{arith}
use Rattle.checker.proofs.Feeds.{feeds-take-le}
use Rattle.checker.proofs.wrong_line.Goals as goal

pub overflow_add-result : goal.overflow_add-result
overflow_add-result c =
    omega (arith, c.line_feeds_in.ensures, c.requires.1, feeds-take-le c.args.octets c.args.listing.now)

pub overflow_cast-result : goal.overflow_cast-result
overflow_cast-result c =
    omega (arith, c.line_feeds_in.ensures, c.requires.1, feeds-take-le c.args.octets c.args.listing.now)
