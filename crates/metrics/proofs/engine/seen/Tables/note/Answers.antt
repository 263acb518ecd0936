-- Assumes nothing.
use Rattle.metrics.proofs.NotingArrivals.{noting-few}
use Rattle.metrics.proofs.engine.seen.Tables.note.Goals as goal

pub bounds-self-state : goal.bounds-self-state
bounds-self-state c = noting-few _ _ _ _ _ _ c.requires

pub note-after-requires : goal.note-after-requires
note-after-requires c = record { numbers = _; next = c.requires }

pub returns : goal.returns
returns c = c.note-after.ensures _
