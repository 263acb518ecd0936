-- `table::records::write_answer` meets its contract: the number of the case, which the row has first, says whose figures follow. Assumes
-- nothing.
use Rattle.std.proofs.Common.{◌++◌, ℕ, List, ap, ◌∙◌}
use Rattle.table.proofs.Laws.{in-order-row, duplicate-row, reordered-row}
use Rattle.table.proofs.records.write_answer.Goals as goal

pub returns-then-kind-clause-written : goal.returns-then-kind-clause-written
returns-then-kind-clause-written c =
    λ a h.
    c.write_in_order.ensures.written ∙ ap (λ (xs : List ℕ). c.args.out.now ++ xs) (in-order-row c.args.json c.args.row.now.numbers.now a h c.if-kind.true)

pub returns-then-kind-2-clause-written : goal.returns-then-kind-2-clause-written
returns-then-kind-2-clause-written c =
    λ a h.
    c.write_duplicate.ensures.written ∙ ap (λ (xs : List ℕ). c.args.out.now ++ xs) (duplicate-row c.args.json c.args.row.now.numbers.now a h c.if-kind-2.true)

pub returns-else-kind-2-clause-written : goal.returns-else-kind-2-clause-written
returns-else-kind-2-clause-written c =
    λ a h. reordered-row c.args.json c.args.row.now.numbers.now _ _ a h c.if-kind.false c.if-kind-2.false c.write_reordered.ensures.written
