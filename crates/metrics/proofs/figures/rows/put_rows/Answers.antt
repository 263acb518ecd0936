-- The row of the next record is `rows_next`, and after the last they are all that were wanted (`rows-wanted`). Assumes nothing.
use Rattle.metrics.proofs.RowLaws.{rows-room, rows-wanted, rows_next, rows_none}
use Rattle.metrics.proofs.TablesFollow.{here}
use Rattle.metrics.specs.Private.Rows.{with_row}
use Rattle.metrics.specs.Rows.{row_of}
use Rattle.rfc4737.specs.declared.Answer.{Answer}
use Rattle.sample.specs.Decode.{decode}
use mathlib.Core.Path.{ap, ◌∙◌}
use native.Mathlib.Omega.{arith}
use Rattle.metrics.proofs.figures.rows.put_rows.Goals as goal

pub loop-i-init : goal.loop-i-init
loop-i-init c = (c.new-engine.ensures (decode c.args.file.now.file.now), rows_none (decode c.args.file.now.file.now) c.args.from c.args.rows.now)

pub arrival_at-arrival-requires : goal.arrival_at-arrival-requires
arrival_at-arrival-requires c = omega (arith, c.pass_end-i-end.ensures.inside)

pub advance-answer-requires : goal.advance-answer-requires
advance-answer-requires c = (omega (arith, c.pass_end-i-end.ensures.inside), c.arrival_at-arrival.ensures.0, c.loop-i.invariant.0)

pub put_answer-requires : goal.put_answer-requires
put_answer-requires c = rows-room _ _ _ _ (here c.args.file.now.laid c.loop-i.i (omega (arith, c.pass_end-i-end.ensures.inside))) _ _ c.loop-i.invariant.1 (omega (arith, c.pass_end-i-end.ensures.room))

pub loop-i-preserved : goal.loop-i-preserved
loop-i-preserved c =
    let l = c.loop-i in
    let step = c.advance-answer.ensures in (
      step.2,
      rows_next _ _ _ _ (here c.args.file.now.laid c.loop-i.i (omega (arith, c.pass_end-i-end.ensures.inside))) _ _ l.invariant.1 _
          (c.put_answer.ensures ∙ ap (λ (a : Answer). with_row c.args.from l.i (row_of a) l.rows) step.0),
    )

pub returns : goal.returns
returns c =
    rows-wanted _ _ _ _ _ c.args.file.now.laid _ _ c.pass_end-i-end.ensures (omega arith) (omega arith) c.loop-i.invariant.1
