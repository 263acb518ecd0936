-- The class of record i + 1 is its answer's (`told`). Assumes nothing.
use Rattle.metrics.proofs.AnswersByClass.{told}
use Rattle.metrics.proofs.NotingArrivals.{noting-seen, seen-follows}
use Rattle.metrics.proofs.OneArrivalMore.{answers_next, inside-told}
use Rattle.metrics.proofs.TablesFollow.{here, numbered-le}
use Rattle.sample.specs.Decode.{decode}
use mathlib.Core.Path.{◌≡◌}
use native.Mathlib.Omega.{arith}
use Rattle.metrics.proofs.figures.gaps.note_to.Goals as goal

pub loop-i-init : goal.loop-i-init
loop-i-init c = (c.requires.2, c.requires.3)

pub number_of-number-requires : goal.number_of-number-requires
number_of-number-requires c = omega arith

pub note_discoverer-requires : goal.note_discoverer-requires
note_discoverer-requires c =
    let l = c.loop-i.invariant in
    let n = c.number_of-number.ensures in
    let few = numbered-le _ _ _ (here c.args.file.now.laid c.loop-i.i (omega arith)) _ _ l.0.follows.numbered in (
      l.1.places,
      omega (arith, few),
      inside-told _ _ _ (here c.args.file.now.laid c.loop-i.i (omega arith)) _ _ _ _ l.0.follows _ (told (decode c.args.file.now.file.now) c.loop-i.i _ _ _ _ l.0.follows _ n.0 n.1 n.2 _ c.class_of-class.ensures),
    )

pub note-state-requires : goal.note-state-requires
note-state-requires c = noting-seen _ _ _ (here c.args.file.now.laid c.loop-i.i (omega arith)) _ _ c.loop-i.invariant.0 _ c.number_of-number.ensures.0

pub loop-i-preserved : goal.loop-i-preserved
loop-i-preserved c =
    let l = c.loop-i.invariant in
    let n = c.number_of-number.ensures in
    let k = told (decode c.args.file.now.file.now) c.loop-i.i _ _ _ _ l.0.follows _ n.0 n.1 n.2 _ c.class_of-class.ensures in (
      seen-follows _ _ _ (here c.args.file.now.laid c.loop-i.i (omega arith)) _ _ l.0 _ n.0 _ _ _ c.note-state.ensures,
      rw (answers_next _ _ _ (here c.args.file.now.laid c.loop-i.i (omega arith))) (c.note_discoverer.ensures _ _ k l.1),
    )

pub returns : goal.returns
returns c =
    let l = c.loop-i in
    let e : l.i ≡ c.args.to = omega arith in
    (rw e at l.invariant.0, rw e at l.invariant.1)
