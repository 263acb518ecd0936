-- Numbers that are put one after the other are spliced in (`row-next`), and a row has eight (`row-length`). Assumes nothing.
use Rattle.metrics.proofs.RowLaws.{row-length, row-next}
use Rattle.metrics.specs.Private.Rows.{with_row}
use borrow.Author.Tests.{le-ltb, lt-ltb}
use lib.ListN.{length}
use lib.Seq.{take_all}
use mathlib.Core.Path.{ap, ◌≡◌, ◌∙◌}
use native.Mathlib.Omega.{arith}
use Rattle.metrics.proofs.figures.rows.put_answer.Goals as goal

pub returns-then-i-from : goal.returns-then-i-from
unfolding with_row
returns-then-i-from c = rw (lt-ltb c.args.i c.args.from c.if-i-from.true)

pub loop-k-preserved : goal.loop-k-preserved
loop-k-preserved c =
    let l = c.loop-k in
    let long : length (c.row_of-row.result) ≡ 8 = ap length c.row_of-row.ensures ∙ row-length c.args.answer in
    rw l.invariant (row-next _ l.k _ c.args.rows.now (omega (arith, long)) (omega (arith, c.requires c.if-i-from.false)))

pub returns : goal.returns
unfolding with_row
returns c =
    let l = c.loop-k in
    let long : length (c.row_of-row.result) ≡ 8 = ap length c.row_of-row.ensures ∙ row-length c.args.answer in
    let e : l.k ≡ 8 = omega arith in
    rw (le-ltb c.args.i c.args.from c.if-i-from.false) (l.invariant ∙ rw (e, take_all 8 c.row_of-row.result (omega (arith, long)), c.row_of-row.ensures))
