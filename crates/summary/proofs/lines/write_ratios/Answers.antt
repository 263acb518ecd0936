-- `summary::lines::write_ratios` meets its contract: the lines are written one after the other. Assumes nothing.
use Rattle.std.proofs.Common.{append_assoc}
use mathlib.Core.List.{append-nil}
use Rattle.summary.specs.Text.{ratio_lines}
use Rattle.summary.proofs.lines.write_ratios.Goals as goal

pub returns-clause-written : goal.returns-clause-written
unfolding ratio_lines
returns-clause-written c = simp (c.write_share-3.ensures.written, c.write_share-2.ensures.written, c.write_share.ensures.written, append_assoc, append-nil)
