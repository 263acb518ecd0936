-- Without a refusal the record asked for is there, so that the records before it can be noted, and `answer_at` gives its answer
-- (`answered`). Assumes nothing.
use Rattle.metrics.proofs.OneArrivalMore.{follows-start}
use Rattle.metrics.proofs.RecordsAsked.{answered, answered-refused, asked-record, record-laid, record-none}
use Rattle.sample.specs.Decode.{decode}
use Rattle.std.proofs.lemmas.Result.{err_from_is_err_and}
use mathlib.Core.Path.{refl, ◌∙◌}
use native.Mathlib.Omega.{arith}
use Rattle.metrics.proofs.figures.answers.answer_of.Goals as goal

pub returns-in_err-asked-clause-err : goal.returns-in_err-asked-clause-err
returns-in_err-asked-clause-err c =
    let p = err_from_is_err_and c.from_residual.result c.from_residual.ensures.1 in
    let e = c.in_err-asked.ensures.err in
    rw (p.1, p.2) (answered-refused _ _ _ (e.0 ∙ asked-record _ _ c.args.file.now.laid c.args.asked) (λ z. omega (arith, z, e.1)))

pub overflow_sub-i : goal.overflow_sub-i
overflow_sub-i c = (record-laid _ _ c.args.file.now.laid _ c.in_ok-asked.ensures.ok).0

pub note_records-state-requires : goal.note_records-state-requires
note_records-state-requires c =
    let r = record-laid _ _ c.args.file.now.laid _ c.in_ok-asked.ensures.ok in
    (omega (arith, r), rw c.new-tables.ensures (follows-start (decode c.args.file.now.file.now)))

pub answer_at-requires : goal.answer_at-requires
answer_at-requires c =
    let r = record-laid _ _ c.args.file.now.laid _ c.in_ok-asked.ensures.ok in
    (omega (arith, r), c.note_records-state.ensures)

pub returns-clause-ok : goal.returns-clause-ok
returns-clause-ok c =
    answered _ _ _ (record-none _ _ c.args.file.now.laid _ c.in_ok-asked.ensures.ok) refl _ c.answer_at.ensures
