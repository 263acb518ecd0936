-- `summary::lines::write_counts` meets its contract: the parts are written one after the other. Assumes nothing.
use Rattle.std.proofs.Common.{append_assoc, arith}
use mathlib.Core.List.{append-nil}
use Rattle.summary.specs.Text.{counts_line}
use Rattle.summary.proofs.lines.write_counts.Goals as goal

pub returns-clause-written : goal.returns-clause-written
unfolding counts_line
returns-clause-written c =
    simp (c.between-3.ensures.written (omega arith), c.between-2.ensures.written (omega arith), c.between.ensures.written (omega arith), append_assoc, append-nil)
