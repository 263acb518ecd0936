-- `sweep::sweep` meets its contract. With the file's refusal (`swept-refused`) or 8 (`swept-short`) nothing is written. Else the table can
-- be cleared (`wide`), the pass is ready (`ready`), the table can be cleared again, and the lists have all figures (`swept`), which
-- are the caller's lists, since the struct has kept its references (`lent-left`). Beside each stands what is carried of rows and of a moved
-- clock. Assumes nothing.
use Rattle.std.proofs.Common.{arith, rules, ◌∙◌, sym, subst}
use Rattle.sample.specs.Decode.{decode}
use Rattle.sample.specs.declared.Layout.{Layout}
use Rattle.sample.proofs.Accepted.{found-sample}
use Rattle.metrics.specs.Records.{FileLayout}
use Rattle.metrics.proofs.FoundInFile.{laid}
use Rattle.sweep.specs.Calls.{lent, SweptTo, EnginesAgree, ReportAgrees}
use Rattle.sweep.proofs.Answers.{swept-refused, swept-short, wide, ready, swept, lent-left, rows_agree}
use Rattle.sweep.proofs.Moved.{sweep-moved}
use Rattle.sweep.proofs.sweep.Goals as goal

pub returns-then-layout-ne-NONE : goal.returns-then-layout-ne-NONE
returns-then-layout-ne-NONE c =
    let p = swept-refused _ _ c.check-layout.ensures.value c.if-layout-ne-NONE.true _ in
    record {
      swept_to = p.0;
      engines = p.1.0;
      report = p.1.1;
      rows = rows_agree;
      moved = sweep-moved _ (λ i. (c.type_inv.file i).fits);
    }

pub returns-then-too_short : goal.returns-then-too_short
returns-then-too_short c =
    let layout = c.check-layout.ensures.value in
    let accepted = found-sample _ _ layout c.if-layout-ne-NONE.false in
    let p = swept-short _ _ layout accepted _ (sym c.if-too_short.true ∙ c.too_short.ensures) _
    (rw c.number.ensures at c.refused_layout.ensures) in
    record {
      swept_to = p.0;
      engines = p.1.0;
      report = p.1.1;
      rows = rows_agree;
      moved = sweep-moved _ (λ i. (c.type_inv.file i).fits);
    }

pub clear-requires : goal.clear-requires
clear-requires c =
    let a = c.args in
    let layout = c.check-layout.ensures.value in
    let accepted = found-sample _ _ layout c.if-layout-ne-NONE.false in
    (wide (decode a.file.now) _ layout accepted (lent a.table.now a.flags.now a.positions.now a.extents.now a.lates.now)
    (sym c.if-too_short.false ∙ c.too_short.ensures)).0

pub invariant_of-checked : goal.invariant_of-checked
invariant_of-checked c = record { laid = rw c.check-layout.ensures.value (laid _ (λ i. (c.type_inv.file i).fits)) }

pub pass-requires : goal.pass-requires
pass-requires c =
    let a = c.args in
    let d = decode a.file.now in
    let layout = c.check-layout.ensures.value in
    let accepted = found-sample _ _ layout c.if-layout-ne-NONE.false in
    let file : FileLayout d c.check-layout.result =
    subst (λ (y : Layout). FileLayout d y) (sym layout) (laid _ (λ i. (c.type_inv.file i).fits)) in
    ready d _ layout accepted (lent a.table.now a.flags.now a.positions.now a.extents.now a.lates.now)
    (sym c.if-too_short.false ∙ c.too_short.ensures) file _ c.clear.ensures

pub clear-requires-2 : goal.clear-requires-2
clear-requires-2 c =
    let a = c.args in
    let layout = c.check-layout.ensures.value in
    let accepted = found-sample _ _ layout c.if-layout-ne-NONE.false in
    let w =
    wide (decode a.file.now) _ layout accepted (lent a.table.now a.flags.now a.positions.now a.extents.now a.lates.now)
    (sym c.if-too_short.false ∙ c.too_short.ensures) in
    omega (arith, w.0, c.clear.auto, c.pass.auto)

pub returns : goal.returns
returns c =
    let a = c.args in
    let d = decode a.file.now in
    let old = lent a.table.now a.flags.now a.positions.now a.extents.now a.lates.now in
    let layout = c.check-layout.ensures.value in
    let accepted = found-sample _ _ layout c.if-layout-ne-NONE.false in
    let file : FileLayout d c.check-layout.result =
    subst (λ (y : Layout). FileLayout d y) (sym layout) (laid _ (λ i. (c.type_inv.file i).fits)) in
    let p =
    swept d _ layout accepted old
    (sym c.if-too_short.false ∙ c.too_short.ensures) file _ c.clear.ensures _ c.pass.ensures.0 _
    c.clear-2.ensures in
    let kept = c.pass.ensures.1 in
    let flags = kept.flags in
    let positions = kept.positions in
    let extents = kept.extents in
    let lates = kept.lates in
    record {
      swept_to = lent-left (λ new. SweptTo d old c.check-layout.result new) (search rules) (search rules) (search rules) (search rules) p.0;
      engines = lent-left (λ new. EnginesAgree d c.check-layout.result new) (search rules) (search rules) (search rules) (search rules) p.1.0;
      report = lent-left (λ new. ReportAgrees d c.check-layout.result new) (search rules) (search rules) (search rules) (search rules) p.1.1;
      rows = rows_agree;
      moved = sweep-moved _ (λ i. (c.type_inv.file i).fits);
    }
