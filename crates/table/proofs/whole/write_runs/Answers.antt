-- `table::whole::write_runs` meets its contract: the pieces are written one after the other. Assumes nothing.
use Rattle.std.proofs.Common.{append_assoc}
use mathlib.Core.List.{append-nil}
use Rattle.table.specs.Private.Pieces.{run_pieces}
use Rattle.table.proofs.whole.write_runs.Goals as goal

pub returns-clause-written : goal.returns-clause-written
unfolding run_pieces
returns-clause-written c = simp (c.write_either.ensures.written, c.write_value-3.ensures.written, c.write_value-2.ensures.written, c.write_value.ensures.written, append_assoc, append-nil)
