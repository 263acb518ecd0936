-- `table::records::write_reordered` meets its contract: the pieces are written one after the other, with the figures of the row. Assumes
-- nothing.
use Rattle.std.proofs.Common.{◌++◌, ℕ, List, get_or, ap, ◌∙◌, append_assoc}
use Rattle.metrics.specs.Rows.{row_of}
use Rattle.writing.specs.Parts.{joined}
use Rattle.table.specs.Private.Pieces.{lateness_pieces, offset_pieces, answer_pieces}
use Rattle.table.proofs.Pieces.{joined-join}
use Rattle.table.proofs.records.write_reordered.Goals as goal

pub returns-clause-written : goal.returns-clause-written
unfolding answer_pieces row_of
returns-clause-written c =
    λ f h.
    let json = c.args.json in
    let out = c.args.out.now in
    let row = c.args.row.now.numbers.now in
    let first = lateness_pieces json f.position f.extent f.late in
    let rest = offset_pieces json f.offset f.largest in
    let read = ap (λ (l : List ℕ). joined (offset_pieces json (get_or l 5 0) (get_or l 6 0))) h in
    c.write_offset.ensures.written
    ∙ ap (λ (xs : List ℕ). xs ++ joined (offset_pieces json (get_or row 5 0) (get_or row 6 0))) (c.write_lateness.ensures.written f h)
    ∙ append_assoc out (joined first) (joined (offset_pieces json (get_or row 5 0) (get_or row 6 0)))
    ∙ ap (λ (xs : List ℕ). out ++ xs) (ap (λ (xs : List ℕ). joined first ++ xs) read ∙ joined-join first rest)
