-- `summary::json::write_needs` meets its contract: the objects are written one after the other. Assumes nothing.
use Rattle.std.proofs.Common.{append_assoc, arith}
use mathlib.Core.List.{append-nil}
use Rattle.summary.specs.Json.{sizes_member}
use Rattle.summary.proofs.json.write_needs.Goals as goal

pub returns-clause-written : goal.returns-clause-written
unfolding sizes_member
returns-clause-written c = simp (c.word.ensures.written (omega arith), c.write_row-5.ensures.written, c.write_row-4.ensures.written, c.write_row-3.ensures.written, c.write_row-2.ensures.written, c.write_row.ensures.written, append_assoc, append-nil)
