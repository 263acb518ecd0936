-- `table::records::write_duplicate` meets its contract: the pieces are written one after the other. Assumes nothing.
use Rattle.std.proofs.Common.{append_assoc}
use mathlib.Core.List.{append-nil}
use Rattle.table.specs.Private.Pieces.{duplicate_pieces}
use Rattle.table.proofs.records.write_duplicate.Goals as goal

pub returns-clause-written : goal.returns-clause-written
unfolding duplicate_pieces
returns-clause-written c = simp (c.write_either.ensures.written, c.write_value.ensures.written, append_assoc, append-nil)
