-- `summary::lines::write_limits` meets its contract: the lines are written one after the other. Assumes nothing.
use Rattle.std.proofs.Common.{append_assoc}
use mathlib.Core.List.{append-nil}
use Rattle.summary.specs.Text.{limit_lines}
use Rattle.summary.proofs.lines.write_limits.Goals as goal

pub returns-clause-written : goal.returns-clause-written
unfolding limit_lines
returns-clause-written c = simp (c.write_if-2.ensures.written, c.write_if.ensures.written, append_assoc, append-nil)
