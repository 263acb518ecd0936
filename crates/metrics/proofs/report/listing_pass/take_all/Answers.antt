-- The first line, the records' lines and the last are those of the sample (`last_taken`), if none differs before. Assumes nothing.
use Rattle.metrics.proofs.Listed.{end-within, sample-within}
use Rattle.metrics.proofs.Passing.{first-differs, first_taken, last_taken, part-moved, record-differs, taken-fits, taken-inside}
use Rattle.std.proofs.lemmas.Result.{err_from_is_err_and}
use mathlib.Core.Path.{refl}
use native.Mathlib.Omega.{arith}
use Rattle.metrics.proofs.report.listing_pass.take_all.Goals as goal

pub returns-in_err-start : goal.returns-in_err-start
returns-in_err-start c =
    let p = err_from_is_err_and c.from_residual.result c.from_residual.ensures.1 in
    rw (p.1, p.2) (first-differs _ _ c.args.file.now.laid _ _ c.in_err-start.ensures refl)

pub take_records-requires : goal.take_records-requires
take_records-requires c =
    let first = c.in_ok-start.ensures in
    let s = first_taken _ _ c.args.file.now.laid _ _ first refl in
    (record { room = λ e. omega (arith, c.requires.room e, first.places); inside = taken-inside s }, s)

pub returns-in_err-passed : goal.returns-in_err-passed
returns-in_err-passed c =
    let e = c.from_residual-in_err-passed in
    let p = err_from_is_err_and e.result e.ensures.1 in
    rw (p.1, p.2) (record-differs _ _ c.args.file.now.laid _ _ c.in_ok-start.ensures _ c.in_err-passed.ensures)

pub take_end-last-requires : goal.take_end-last-requires
take_end-last-requires c =
    let s = c.in_ok-passed.ensures in (
      record {
        room = λ e. omega (arith, c.requires.room e, c.in_ok-start.ensures.places, s.0.places);
        inside = taken-inside s.0;
      },
      end-within _ _ c.args.file.now.laid s.1,
    )

pub part_after-requires : goal.part_after-requires
part_after-requires c =
    let s = c.in_ok-passed.ensures in
    taken-fits (omega arith)
    (omega (arith, sample-within c.args.file.now.file.now _ c.args.file.now.laid c.args.file.now.octets))
    (last_taken _ _ c.args.file.now.laid _ _ c.in_ok-start.ensures s.0 s.1 c.take_end-last.ensures)

pub returns : goal.returns
returns c =
    let s = c.in_ok-passed.ensures in
    rw (c.part_after.ensures, part-moved) (last_taken _ _ c.args.file.now.laid _ _ c.in_ok-start.ensures s.0 s.1 c.take_end-last.ensures)
