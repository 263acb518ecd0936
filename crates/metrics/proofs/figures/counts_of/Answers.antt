-- An arrival's kind by the packets seen is its class (`counts-seen`). Assumes nothing.
use Rattle.metrics.proofs.CountsBySeen.{counts-seen, seen_next, seen_start, unseen}
use Rattle.metrics.proofs.DigitBounds.{counts-within}
use Rattle.metrics.proofs.OneArrivalMore.{answers-end, answers-length, answers-start}
use Rattle.metrics.proofs.TablesFollow.{here}
use Rattle.rfc4737.specs.Runs.{counts}
use Rattle.sample.specs.Decode.{decode}
use mathlib.Core.Path.{ap, sym, ◌∙◌}
use native.Mathlib.Omega.{arith}
use Rattle.metrics.proofs.figures.counts_of.Goals as goal

pub loop-i-init : goal.loop-i-init
loop-i-init c = (seen_start (decode c.args.file.now.file.now), c.no_counts-c.ensures ∙ sym (ap counts (answers-start (decode c.args.file.now.file.now))))

pub kind_of-class-requires : goal.kind_of-class-requires
kind_of-class-requires c =
    let h = c.number_of-number.ensures.2 in (h, unseen _ _ _ c.loop-i.invariant.0 _ h)

pub counts_after-c-requires : goal.counts_after-c-requires
counts_after-c-requires c =
    rw c.loop-i.invariant.1 (counts-within _ (omega (arith, answers-length _ _ _ (here c.args.file.now.laid c.loop-i.i (omega arith)), c.args.file.now.laid.few)))

pub loop-i-preserved : goal.loop-i-preserved
loop-i-preserved c =
    let n = c.number_of-number.ensures in
    let l = c.loop-i.invariant in (
      rw c.next_after-next.ensures (seen_next _ _ _ (here c.args.file.now.laid c.loop-i.i (omega arith)) _ _ l.0 _ n.0 n.2),
      counts-seen _ _ _ (here c.args.file.now.laid c.loop-i.i (omega arith)) _ _ l.0 _ n.0 n.2 c.kind_of-class.ensures (λ m a. c.counts_after-c.ensures _ m a l.1),
    )

pub returns : goal.returns
returns c = c.loop-i.invariant.1 ∙ ap counts (answers-end _ _ _ c.args.file.now.laid (omega arith))
