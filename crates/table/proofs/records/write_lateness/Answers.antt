-- `table::records::write_lateness` meets its contract: the pieces are written one after the other, with the figures of the row. Assumes
-- nothing.
use Rattle.std.proofs.Common.{◌≡◌, ℕ, List, get_or, ap, append_assoc, arith}
use mathlib.Core.List.{append-nil}
use Rattle.metrics.specs.Rows.{row_of}
use Rattle.table.specs.Private.Pieces.{lateness_pieces}
use Rattle.table.proofs.records.write_lateness.Goals as goal

pub returns-clause-written : goal.returns-clause-written
unfolding lateness_pieces row_of
returns-clause-written c =
    λ f h.
    let row = c.args.row.now.numbers.now in
    let position : get_or row 1 0 ≡ f.position = ap (λ (l : List ℕ). get_or l 1 0) h in
    let extent : get_or row 3 0 ≡ f.extent = ap (λ (l : List ℕ). get_or l 3 0) h in
    let late = c.late_in.ensures f.late (ap (λ (l : List ℕ). get_or l 0 0) h) (ap (λ (l : List ℕ). get_or l 4 0) h) in
    simp (
      c.late_time.ensures.written (omega arith),
      late,
      c.write_either.ensures.written,
      c.write_value-2.ensures.written,
      extent,
      c.write_value.ensures.written,
      position,
      append_assoc,
      append-nil,
    )
