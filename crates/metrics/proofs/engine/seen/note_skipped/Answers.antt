-- Assumes nothing.
use Rattle.metrics.proofs.TablesFollow.{filled-to, filled_more, filled_none}
use native.Mathlib.Omega.{arith}
use Rattle.metrics.proofs.engine.seen.note_skipped.Goals as goal

pub loop-packet-init : goal.loop-packet-init
loop-packet-init c = filled_none _ _ _

pub loop-packet-preserved : goal.loop-packet-preserved
loop-packet-preserved c = filled_more _ _ _ _ _ c.loop-packet.auto.packet (omega arith) c.loop-packet.invariant

pub returns : goal.returns
returns c = filled-to _ _ _ _ _ _ (omega arith) (omega arith) c.loop-packet.invariant
