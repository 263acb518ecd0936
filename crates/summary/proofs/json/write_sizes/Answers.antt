-- `summary::json::write_sizes` meets its contract: the members are written one after the other. Assumes nothing.
use Rattle.std.proofs.Common.{append_assoc, arith}
use mathlib.Core.List.{append-nil}
use Rattle.summary.specs.Json.{sizes_object}
use Rattle.summary.proofs.json.write_sizes.Goals as goal

pub returns-clause-written : goal.returns-clause-written
unfolding sizes_object
returns-clause-written c = simp (c.between-4.ensures.written (omega arith), c.between-3.ensures.written (omega arith), c.between-2.ensures.written (omega arith), c.between.ensures.written (omega arith), append_assoc, append-nil)
