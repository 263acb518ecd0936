-- `summary::json::write_limits` meets its contract: the members are written one after the other. Assumes nothing.
use Rattle.std.proofs.Common.{append_assoc}
use mathlib.Core.List.{append-nil}
use Rattle.summary.specs.Json.{limit_members}
use Rattle.summary.proofs.json.write_limits.Goals as goal

pub returns-clause-written : goal.returns-clause-written
unfolding limit_members
returns-clause-written c = simp (c.write_flag-2.ensures.written, c.write_flag.ensures.written, append_assoc, append-nil)
