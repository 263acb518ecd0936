-- The class of the record asked for is its answer's (`told`). Assumes nothing.
use Prim.Native.Nat.{◌-◌, ◌≤◌}
use Rattle.metrics.proofs.AnswersByClass.{told}
use Rattle.metrics.proofs.OneArrivalMore.{answers-end, marked_start, seen-start}
use Rattle.metrics.proofs.TablesFollow.{here, numbered-le}
use Rattle.sample.specs.Decode.{decode}
use native.Mathlib.Omega.{arith}
use Rattle.metrics.proofs.figures.gaps.note_discoverers.Goals as goal

pub note_to-state-requires : goal.note_to-state-requires
note_to-state-requires c =
    (omega arith, omega arith, rw c.new-seen.ensures (seen-start (decode c.args.file.now.file.now)), rw c.requires.2 (marked_start (decode c.args.file.now.file.now)))

pub note_to-requires : goal.note_to-requires
note_to-requires c = let f = c.note_to-state.ensures in (omega arith, omega arith, f.0, f.1)

pub position_of-requires : goal.position_of-requires
position_of-requires c = omega (arith, numbered-le _ _ _ (here c.args.file.now.laid (c.args.asked - 1) (omega arith)) _ _ c.note_to-state.ensures.0.follows.numbered)

pub returns : goal.returns
returns c =
    let n = c.number_of.ensures in
    let all : c.args.file.now.layout.arrivals ≤ c.args.file.now.layout.arrivals = omega arith in (
      c.position_of.ensures _ (told (decode c.args.file.now.file.now) _ _ _ _ _ c.note_to-state.ensures.0.follows _ n.0 n.1 n.2 _ c.class_of-class.ensures),
      rw (answers-end _ _ _ c.args.file.now.laid all) at c.note_to.ensures.1,
    )
