-- The class of record i + 1 is its answer's (`told`), so that `tally_after` makes the step of the tally (`tally-next`); its counts are at
-- most the answers so far (`tally-le`). Assumes nothing.
use Prim.Native.Nat.{ℕ, ◌≤◌}
use Rattle.metrics.proofs.AnswersByClass.{told}
use Rattle.metrics.proofs.NotingArrivals.{noting-seen, seen-follows}
use Rattle.metrics.proofs.OneArrivalMore.{answers-end, answers-length, answers-start, inside-told, seen-start, tally-next, tally-none}
use Rattle.metrics.proofs.TablesFollow.{here, numbered-le}
use Rattle.metrics.specs.Records.{answers_to}
use Rattle.rfc4737.proofs.Folds.{length-tally, tally-le}
use Rattle.rfc4737.specs.Judge.{sent_most}
use Rattle.rfc4737.specs.Tally.{tally}
use Rattle.sample.specs.Decode.{decode}
use lib.ListN.{get_or}
use mathlib.Core.Path.{ap, sym, ◌∙◌}
use native.Mathlib.Omega.{arith}
use Rattle.metrics.proofs.figures.tally_of.Goals as goal

pub loop-i-init : goal.loop-i-init
loop-i-init c = (rw c.new-seen.ensures (seen-start (decode c.args.file.now.file.now)), sym (ap tally (answers-start (decode c.args.file.now.file.now)) ∙ tally-none))

pub tally_after-requires : goal.tally_after-requires
tally_after-requires c =
    let l = c.loop-i in
    let n = c.number_of-number.ensures in
    let few = numbered-le _ _ _ (here c.args.file.now.laid c.loop-i.i (omega arith)) _ _ l.invariant.0.follows.numbered in
    let most : (k : ℕ) → get_or (tally (answers_to (decode c.args.file.now.file.now) l.i)) k 0 ≤ sent_most =
    λ k. omega (arith, few, tally-le (answers_to (decode c.args.file.now.file.now) l.i) k, answers-length _ _ _ (here c.args.file.now.laid c.loop-i.i (omega arith))) in (
      rw l.invariant.1 (length-tally _),
      rw l.invariant.1 most,
      omega (arith, few),
      inside-told _ _ _ (here c.args.file.now.laid c.loop-i.i (omega arith)) _ _ _ _ l.invariant.0.follows _ (told (decode c.args.file.now.file.now) l.i _ _ _ _ l.invariant.0.follows _ n.0 n.1 n.2 _ c.class_of-class.ensures),
    )

pub note-state-requires : goal.note-state-requires
note-state-requires c = noting-seen _ _ _ (here c.args.file.now.laid c.loop-i.i (omega arith)) _ _ c.loop-i.invariant.0 _ c.number_of-number.ensures.0

pub loop-i-preserved : goal.loop-i-preserved
loop-i-preserved c =
    let l = c.loop-i in
    let n = c.number_of-number.ensures in
    let k = told (decode c.args.file.now.file.now) l.i _ _ _ _ l.invariant.0.follows _ n.0 n.1 n.2 _ c.class_of-class.ensures in (
      seen-follows _ _ _ (here c.args.file.now.laid c.loop-i.i (omega arith)) _ _ l.invariant.0 _ n.0 _ _ _ c.note-state.ensures,
      c.tally_after.ensures _ k ∙ tally-next _ _ _ (here c.args.file.now.laid c.loop-i.i (omega arith)) _ l.invariant.1,
    )

pub returns : goal.returns
returns c = c.loop-i.invariant.1 ∙ ap tally (answers-end _ _ _ c.args.file.now.laid (omega arith))
