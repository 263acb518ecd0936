-- One line more is taken (`passed-next`), or it differs and ends the pass (`passed-stop`). The octets are few, as the lines are
-- (`taken-fits`). Assumes nothing.
use Prim.Native.Nat.{◌+◌}
use Rattle.metrics.proofs.DigitBounds.{answers-within, counts-within}
use Rattle.metrics.proofs.Listed.{lines-within}
use Rattle.metrics.proofs.OneArrivalMore.{answers-length, answers-start, answers_next}
use Rattle.metrics.proofs.Passing.{line-more, passed-all, passed-next, passed-stop, taken-fits, taken-inside}
use Rattle.metrics.proofs.TablesFollow.{here}
use Rattle.rfc4737.specs.Runs.{counts}
use Rattle.rfc4737.specs.declared.Arrival.{Arrival}
use Rattle.sample.specs.Decode.{decode}
use Rattle.std.proofs.lemmas.Result.{err_from_is_err_and}
use mathlib.Core.Path.{ap, sym, ◌∙◌}
use native.Mathlib.Omega.{arith}
use Rattle.metrics.proofs.report.listing_pass.take_records.Goals as goal

pub loop-i-init : goal.loop-i-init
loop-i-init c =
    (c.new-engine.ensures (decode c.args.file.now.file.now), c.no_counts-counts.ensures ∙ sym (ap counts (answers-start (decode c.args.file.now.file.now))), c.requires.1)

pub advance-step-requires : goal.advance-step-requires
advance-step-requires c = (omega arith, c.arrival_at-arrival.ensures.0, c.loop-i.invariant.0)

pub take_record-part-requires : goal.take_record-part-requires
take_record-part-requires c =
    let s = c.loop-i.invariant.2 in (
      record { room = λ e. omega (arith, c.requires.0.room e, s.places); inside = taken-inside s },
      omega (arith, c.args.file.now.laid.few),
      omega (arith, c.arrival_at-arrival.ensures.1),
      rw c.advance-step.ensures.0 (answers-within c.args.file.now.file.now _ c.loop-i.i c.args.file.now.octets (here c.args.file.now.laid c.loop-i.i (omega arith))),
    )

pub part_after-requires : goal.part_after-requires
part_after-requires c = (taken-fits (omega arith)
    (omega (
      arith,
      c.args.file.now.laid.few,
      lines-within c.args.file.now.file.now _ c.args.file.now.laid c.args.file.now.octets (c.loop-i.i + 1) (omega arith),
    ))
    (line-more _ _ _ _ c.take_record-part.result (here c.args.file.now.laid c.loop-i.i (omega arith)) c.loop-i.invariant.2 (ap (λ (b : Arrival). b.number) c.arrival_at-arrival.ensures.0)
    c.advance-step.ensures.0 c.take_record-part.ensures))

pub returns-in_err-at : goal.returns-in_err-at
returns-in_err-at c =
    let p = err_from_is_err_and c.from_residual.result c.from_residual.ensures.1 in
    rw (p.1, p.2) (passed-stop _ _ _ _ _ (here c.args.file.now.laid c.loop-i.i (omega arith)) c.loop-i.invariant.2 (ap (λ (b : Arrival). b.number) c.arrival_at-arrival.ensures.0)
    c.advance-step.ensures.0 c.take_record-part.ensures _ (sym c.in_err-at.ensures))

pub counts_after-counts-requires : goal.counts_after-counts-requires
counts_after-counts-requires c =
    rw c.loop-i.invariant.1 (counts-within _ (omega (arith, answers-length _ _ _ (here c.args.file.now.laid c.loop-i.i (omega arith)), c.args.file.now.laid.few)))

pub loop-i-preserved : goal.loop-i-preserved
loop-i-preserved c =
    let l = c.loop-i.invariant in
    let step = c.advance-step.ensures in (
      step.2,
      c.counts_after-counts.ensures _ _ _ l.1 step.1 ∙ sym (ap counts (answers_next _ _ _ (here c.args.file.now.laid c.loop-i.i (omega arith)))),
      passed-next _ _ _ _ _ (here c.args.file.now.laid c.loop-i.i (omega arith)) l.2 (ap (λ (b : Arrival). b.number) c.arrival_at-arrival.ensures.0) step.0
          c.take_record-part.ensures _ (sym c.in_ok-at.ensures),
    )

pub returns : goal.returns
returns c =
    let l = c.loop-i.invariant in passed-all _ _ _ _ c.args.file.now.laid (omega arith) (omega arith) l.2 l.1
