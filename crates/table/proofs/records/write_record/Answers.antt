-- `table::records::write_record` meets its contract: the pieces of the record's start and of its answer are its text (`record-pieces`).
-- Assumes nothing.
use Rattle.std.proofs.Common.{◌++◌, ℕ, List, ap, ◌∙◌, append_assoc}
use Rattle.writing.specs.Parts.{joined}
use Rattle.table.specs.Private.Pieces.{start_pieces, answer_pieces}
use Rattle.table.proofs.Pieces.{record-pieces}
use Rattle.table.proofs.records.write_record.Goals as goal

pub returns-clause-written : goal.returns-clause-written
returns-clause-written c =
    λ a h.
    let s = c.args in
    let start = joined (start_pieces s.json s.i s.arrival) in
    let answer = joined (answer_pieces s.json a) in
    c.write_answer.ensures.written a h ∙ ap (λ (xs : List ℕ). xs ++ answer) c.write_start.ensures.written
    ∙ append_assoc s.out.now start answer ∙ ap (λ (xs : List ℕ). s.out.now ++ xs) (record-pieces s.json s.i s.arrival a)
