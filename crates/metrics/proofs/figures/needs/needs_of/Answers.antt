-- The class of record i + 1 is its answer's (`told`), `need_of` returns its need, and `needs_after` adds it (`needs-next`). Assumes
-- nothing.
use Rattle.metrics.proofs.Accommodation.{count-le, needs-few, needs-next, needs-none}
use Rattle.metrics.proofs.AnswersByClass.{new_told, told}
use Rattle.metrics.proofs.EngineState.{size-tree-next}
use Rattle.metrics.proofs.NotingArrivals.{noted-follows, noting}
use Rattle.metrics.proofs.OneArrivalMore.{answers-end, answers-length, answers-start, follows-start}
use Rattle.metrics.proofs.Pairs.{size-tree-none}
use Rattle.metrics.proofs.TablesFollow.{here, number-few}
use Rattle.metrics.specs.Records.{answers_to, before}
use Rattle.metrics.specs.Sample.{size_of}
use Rattle.rfc4737.specs.Arrivals.{firsts}
use Rattle.sample.specs.Decode.{decode}
use mathlib.Core.Path.{sym}
use native.Mathlib.Omega.{arith}
use Rattle.metrics.proofs.figures.needs.needs_of.Goals as goal

pub loop-i-init : goal.loop-i-init
loop-i-init c = (
  record {
    follows = rw c.new-tables.ensures (follows-start (decode c.args.file.now.file.now));
    totalled = rw c.new-tree.ensures (size-tree-none (size_of (decode c.args.file.now.file.now)) (firsts (before (decode c.args.file.now.file.now) 0)));
  },
  rw (answers-start (decode c.args.file.now.file.now), c.requires) (needs-none c.args.measure c.args.sizes.low c.args.sizes.shift),
)

pub need_of-need-requires : goal.need_of-need-requires
need_of-need-requires c =
    let f = c.loop-i.invariant.0.follows in
    let e = c.arrival_at-arrival.ensures in
    let n = number-few _ _ _ (here c.args.file.now.laid c.loop-i.i (omega arith)) _ e.0 in
    let t = c.class_of-class.ensures in
    record {
      there = (here c.args.file.now.laid c.loop-i.i (omega arith));
      is = e.0;
      numbered = f.numbered;
      recorded = f.recorded;
      classed = told (decode c.args.file.now.file.now) c.loop-i.i _ _ _ _ f _ n.0 n.1 n.2 _ t;
      new = new_told (decode c.args.file.now.file.now) c.loop-i.i _ _ _ _ f _ n.0 n.1 n.2 _ t;
      totalled = c.loop-i.invariant.0.totalled;
    }

pub needs_after-needs-requires : goal.needs_after-needs-requires
needs_after-needs-requires c =
    let l = c.loop-i in
    let h = needs-few _ _ _ _ _ _ l.invariant.1 in
    let n = answers-length _ _ _ (here c.args.file.now.laid c.loop-i.i (omega arith)) in (
      omega (arith, h.0, n, c.args.file.now.laid.few),
      l.invariant.1.places,
      λ j inside. omega (arith, count-le l.counts j, h.1 j inside, n, c.args.file.now.laid.few),
    )

pub note-state-requires : goal.note-state-requires
note-state-requires c =
    noting _ _ _ (here c.args.file.now.laid c.loop-i.i (omega arith)) _ _ _ _ c.loop-i.invariant.0.follows _ (number-few _ _ _ (here c.args.file.now.laid c.loop-i.i (omega arith)) _ c.arrival_at-arrival.ensures.0).0

pub loop-i-preserved : goal.loop-i-preserved
loop-i-preserved c =
    let l = c.loop-i in
    let f = l.invariant.0.follows in
    let n = number-few _ _ _ (here c.args.file.now.laid c.loop-i.i (omega arith)) _ c.arrival_at-arrival.ensures.0 in
    let need = c.need_of-need.ensures in
    let k = told (decode c.args.file.now.file.now) l.i _ _ _ _ f _ n.0 n.1 n.2 _ c.class_of-class.ensures in (
      record {
        follows = noted-follows _ _ _ (here c.args.file.now.laid c.loop-i.i (omega arith)) _ _ _ _ f _ n.0 _ _ _ _ _ c.note-state.ensures;
        totalled = size-tree-next _ _ _ (here c.args.file.now.laid c.loop-i.i (omega arith)) _ need.1;
      },
      needs-next c.args.measure c.args.sizes.low c.args.sizes.shift _ _ _ (here c.args.file.now.laid c.loop-i.i (omega arith)) _ _
          (c.needs_after-needs.ensures c.args.measure _ (answers_to (decode c.args.file.now.file.now) l.i) _ k need.0 l.invariant.1),
    )

pub returns : goal.returns
returns c = rw (sym (answers-end (decode c.args.file.now.file.now) _ c.loop-i.i c.args.file.now.laid (omega arith))) c.loop-i.invariant.1
