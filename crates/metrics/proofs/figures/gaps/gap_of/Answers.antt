-- Assumes nothing.
use Rattle.metrics.proofs.RecordsAsked.{asked-record, gap-answered-refused, gap-copy, gap-placed, place-few, record-laid}
use Rattle.std.proofs.lemmas.Result.{err_from_is_err_and}
use borrow.Author.Rules.{rules}
use mathlib.Core.Path.{◌∙◌}
use native.Mathlib.Omega.{arith}
use Rattle.metrics.proofs.figures.gaps.gap_of.Goals as goal

pub note_discoverers-requires : goal.note_discoverers-requires
note_discoverers-requires c =
    let r = record-laid _ _ c.args.file.now.laid _ c.in_ok-asked.ensures.ok in (r.0, r.1, search rules)

pub returns-in_err-asked-clause-err : goal.returns-in_err-asked-clause-err
returns-in_err-asked-clause-err c =
    let p = err_from_is_err_and c.from_residual.result c.from_residual.ensures.1 in
    let e = c.in_err-asked.ensures.err in
    rw (p.1, p.2) (gap-answered-refused _ _ _ (e.0 ∙ asked-record _ _ c.args.file.now.laid c.args.asked) (λ z. omega (arith, z, e.1)))

pub returns-in_default-clause-ok : goal.returns-in_default-clause-ok
returns-in_default-clause-ok c =
    gap-copy _ _ c.args.file.now.laid _ c.in_ok-asked.ensures.ok (rw c.in_default.is at c.note_discoverers.ensures.0)

pub gap_at-requires : goal.gap_at-requires
gap_at-requires c =
    place-few _ _ c.args.file.now.laid _ c.in_ok-asked.ensures.ok _ (rw c.in-Some.is at c.note_discoverers.ensures.0)

pub returns-clause-ok : goal.returns-clause-ok
returns-clause-ok c =
    let m = c.note_discoverers.ensures in
    gap-placed _ _ c.args.file.now.laid _ c.in_ok-asked.ensures.ok _ (rw c.in-Some.is at m.0) _ (c.gap_at.ensures _ m.1)
