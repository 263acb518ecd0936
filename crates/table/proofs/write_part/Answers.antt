-- `table::write_part` meets its contract: the rows of the part's records are known, and a first pass finds the length of the part. Then
-- the file's own refusal comes first, and 8 if the part does not fit; else it is put. Assumes nothing.
use Rattle.std.proofs.Common.{◌≡◌, ◌<◌, ◌≤◌, ℕ, List, length, sym, ap, ◌∙◌, arith}
use Rattle.sample.specs.declared.Layout.{Layout}
use Rattle.sample.specs.Decode.{decode, decoded_refusal}
use Rattle.sample.proofs.Output.{output-refused, output-short, output-written}
use Rattle.metrics.specs.Records.{FileLayout}
use Rattle.metrics.proofs.FoundInFile.{laid}
use Rattle.writing.proofs.Put.{put-start}
use Rattle.table.specs.Text.{part_text}
use Rattle.table.proofs.Joined.{parts_join}
use Rattle.table.proofs.Filled.{counts-known}
use Rattle.table.proofs.write_part.Goals as goal

-- the file's own refusal
own : (file : List ℕ) {layout : Layout} → FileLayout (decode file) layout → layout.refusal ≡ decoded_refusal (decode file)
own file h = ap (λ (y : Layout). y.refusal) h.laid

pub invariant_of-whole : goal.invariant_of-whole
invariant_of-whole c =
    let known = c.part_rows-layout.ensures in
    record { laid = known.0; octets = λ i. (c.type_inv.file i).fits; known = known.1; counts_known = counts-known _ c.counts.ensures }

pub returns-then-layout-ne-NONE : goal.returns-then-layout-ne-NONE
returns-then-layout-ne-NONE c =
    let n = c.put-n.ensures in
    let file = c.args.file.now in (
      output-refused _ _ _ _ (own _ c.part_rows-layout.ensures.0) c.if-layout-ne-NONE.true,
      omega (arith, n.0, n.1.place),
      parts_join c.args.json (decode file) (laid file (λ i. (c.type_inv.file i).fits)).few,
    )

pub returns-then-out-n : goal.returns-then-out-n
returns-then-out-n c =
    let n = c.put-n.ensures in
    let a = c.args in
    let short : length a.out.now < length (part_text a.json (decode a.file.now) a.part) = omega (arith, n.1.place, c.if-out-n.true) in (
      rw c.from.ensures (output-short _ _ _ (sym (own _ c.part_rows-layout.ensures.0) ∙ c.if-layout-ne-NONE.false) short),
      omega (arith, n.0, n.1.place),
      parts_join a.json (decode a.file.now) (laid a.file.now (λ i. (c.type_inv.file i).fits)).few,
    )

pub returns : goal.returns
returns c =
    let n = c.put-n.ensures in
    let a = c.args in
    let count : c.put-n.result ≡ length (part_text a.json (decode a.file.now) a.part) = omega (arith, n.1.place) in
    let fits : length (part_text a.json (decode a.file.now) a.part) ≤ length a.out.now = omega (arith, count, c.if-out-n.false) in (
      rw c.from-2.ensures
          (output-written _ _ _ (sym (own _ c.part_rows-layout.ensures.0) ∙ c.if-layout-ne-NONE.false) fits count (put-start c.put.ensures.1 fits)),
      omega (arith, n.0, n.1.place),
      parts_join a.json (decode a.file.now) (laid a.file.now (λ i. (c.type_inv.file i).fits)).few,
    )
