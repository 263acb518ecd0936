-- `table::whole::part_rows` meets its contract: `rows_from` puts the rows of a block (`block-known`), and any other part has no records
-- (`none-known`). Assumes nothing.
use Rattle.std.proofs.Common.{◌≤◌, ◌-◌, arith}
use Rattle.sample.specs.Decode.{decode}
use Rattle.metrics.proofs.FoundInFile.{laid}
use Rattle.table.specs.Text.{block_start}
use Rattle.table.proofs.Filled.{file-laid, none-known, block-known}
use Rattle.table.proofs.whole.part_rows.Goals as goal
use Rattle.table.proofs.whole.part_rows.Goals.{in_default-via-then-part-lt1, in_default-via-else-part-lt1+else-part-lt17}

pub returns-in-1-to-16 : goal.returns-in-1-to-16
returns-in-1-to-16 c =
    let s = c.args in (
      file-laid _ (λ i. (c.type_inv.file i).fits) c.rows_from.ensures.layout,
      block-known _ s.part (λ z. omega (arith, z)) s.rows.now c.requires c.rows_from.ensures.rows,
    )

pub returns-in_default : goal.returns-in_default
returns-in_default c =
    let s = c.args in
    let d = decode s.file.now in
    let base = laid s.file.now (λ i. (c.type_inv.file i).fits) in
    let none : block_start d s.part ≤ block_start d (s.part - 1) =
    elim c.in_default.branch [
      | in_default-via-then-part-lt1 w ↦ omega arith
      | in_default-via-else-part-lt1+else-part-lt17 w ↦ omega (arith, base.few)
    ] in
    (file-laid _ (λ i. (c.type_inv.file i).fits) c.check.ensures.value, none-known d s.part none _)
