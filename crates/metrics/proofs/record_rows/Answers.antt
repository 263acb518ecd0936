-- With a refusal the list stays (`rows-refused`, `rows-eight`); else it is filled (`rows-filled`). Assumes nothing.
use Prim.Native.Nat.{ℕ}
use Rattle.metrics.proofs.RowLaws.{rows-eight, rows-filled, rows-refused, rows_tell}
use Rattle.metrics.specs.Records.{FileLayout}
use Rattle.sample.proofs.Accepted.{found-sample}
use Rattle.sample.specs.Decode.{accepted, decode, sample_of}
use Rattle.sample.specs.declared.Layout.{Layout}
use mathlib.Core.List.{List}
use mathlib.Core.Path.{sym, ◌∙◌, ◌≡◌}
use Rattle.metrics.proofs.record_rows.Goals as goal

accepted-of : (file : List ℕ) (layout : Layout) → FileLayout (decode file) layout → layout.refusal ≡ 0
    → decode file ≡ accepted (sample_of (decode file))
accepted-of file layout h z = found-sample _ _ h.laid z

pub returns-then-layout-ne-NONE-clause-rows_to : goal.returns-then-layout-ne-NONE-clause-rows_to
returns-then-layout-ne-NONE-clause-rows_to c =
    rw (← c.new-file.ensures) (rows-refused _ _ c.new-file.result.laid.laid c.if-layout-ne-NONE.true _)

pub returns-then-rows_short-clause-rows_to : goal.returns-then-rows_short-clause-rows_to
returns-then-rows_short-clause-rows_to c =
    let h = c.new-file.result.laid in
    rw (← c.new-file.ensures) (rows-eight _ _ h (accepted-of _ _ h c.if-layout-ne-NONE.false) _
    (sym c.if-rows_short.true ∙ c.rows_short.ensures) _ (rw c.number.ensures at c.refused_layout.ensures))

pub returns-clause-rows_to : goal.returns-clause-rows_to
returns-clause-rows_to c =
    let h = c.new-file.result.laid in
    rw (← c.new-file.ensures) (rows-filled _ _ h (accepted-of _ _ h c.if-layout-ne-NONE.false) _
    (sym c.if-rows_short.false ∙ c.rows_short.ensures) _ c.put_rows.ensures)

pub returns-then-layout-ne-NONE-clause-tell : goal.returns-then-layout-ne-NONE-clause-tell
returns-then-layout-ne-NONE-clause-tell c = rows_tell

pub returns-then-rows_short-clause-tell : goal.returns-then-rows_short-clause-tell
returns-then-rows_short-clause-tell c = rows_tell

pub returns-clause-tell : goal.returns-clause-tell
returns-clause-tell c = rows_tell
