-- The class says the case and its figures; the rest of a reordered packet's is given (`late-whole`). Assumes nothing.
use Rattle.metrics.proofs.AnswersByClass.{late-place, late-whole}
use Rattle.metrics.proofs.TablesFollow.{here, numbered-le}
use Rattle.rfc4737.specs.declared.Arrival.{Arrival}
use mathlib.Core.Path.{ap, sym}
use native.Mathlib.Omega.{arith}
use Rattle.metrics.proofs.engine.seen.Tables.answer_by.Goals as goal

pub overflow_add-result : goal.overflow_add-result
overflow_add-result c = let p = c.requires in omega (arith, numbered-le _ _ _ (here c.args.file.now.laid c.args.i c.requires.0) _ _ p.2)

pub overflow_add-result-in-Reordered : goal.overflow_add-result-in-Reordered
overflow_add-result-in-Reordered c = let p = c.requires in omega (arith, numbered-le _ _ _ (here c.args.file.now.laid c.args.i c.requires.0) _ _ p.2)

pub overflow_add-result-in-Reordered-2 : goal.overflow_add-result-in-Reordered-2
overflow_add-result-in-Reordered-2 c = let p = c.requires in omega (arith, numbered-le _ _ _ (here c.args.file.now.laid c.args.i c.requires.0) _ _ p.2)

pub overflow_sub-result : goal.overflow_sub-result
overflow_sub-result c =
    let p = c.requires in omega (arith, late-place _ _ _ _ _ (here c.args.file.now.laid c.args.i c.requires.0) (rw c.in-Reordered.is at p.4) _ _ p.2 p.3)

pub late_time-requires : goal.late_time-requires
late_time-requires c =
    let p = c.requires in (p.0, rw c.in-Reordered.is at p.4, p.2, p.3, ap (λ (a : Arrival). a.time) p.1)

pub returns-in-Duplicate : goal.returns-in-Duplicate
returns-in-Duplicate c = sym (rw c.in-Duplicate.is at c.requires.4.is)

pub returns-in-InOrder : goal.returns-in-InOrder
returns-in-InOrder c = sym (rw c.in-InOrder.is at c.requires.4.is)

pub returns-in-Reordered : goal.returns-in-Reordered
returns-in-Reordered c =
    let p = c.requires in
    let l = rw c.in-Reordered.is at p.5 in
    late-whole _ _ _ _ _ (here c.args.file.now.laid c.args.i c.requires.0) (rw c.in-Reordered.is at p.4) _ _ p.2 p.3 _ _ _ c.late_time.ensures l.0 l.1
