-- Assumes nothing.
use Rattle.metrics.proofs.NotingArrivals.{noted-follows, noting}
use Rattle.metrics.proofs.TablesFollow.{here}
use mathlib.Core.Path.{◌≡◌}
use native.Mathlib.Omega.{arith}
use Rattle.metrics.proofs.figures.answers.note_records.Goals as goal

pub loop-i-init : goal.loop-i-init
loop-i-init c = c.requires.1

pub number_of-requires : goal.number_of-requires
number_of-requires c = omega arith

pub note-state-requires : goal.note-state-requires
note-state-requires c = noting _ _ _ (here c.args.file.now.laid c.loop-i.i (omega arith)) _ _ _ _ c.loop-i.invariant _ c.number_of.ensures.0

pub loop-i-preserved : goal.loop-i-preserved
loop-i-preserved c = noted-follows _ _ _ (here c.args.file.now.laid c.loop-i.i (omega arith)) _ _ _ _ c.loop-i.invariant _ c.number_of.ensures.0 _ _ _ _ _ c.note-state.ensures

pub returns : goal.returns
returns c = let e : c.loop-i.i ≡ c.args.n = omega arith in rw e at c.loop-i.invariant
