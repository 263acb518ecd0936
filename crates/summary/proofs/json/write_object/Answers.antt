-- `summary::json::write_object` meets its contract: a label has at most 64 octets (`label-short`). Assumes nothing.
use Rattle.std.proofs.Common.{length, ap, arith}
use Rattle.summary.proofs.Escapes.{label-short}
use Rattle.summary.proofs.json.write_object.Goals as goal

pub put_label_member-requires : goal.put_label_member-requires
put_label_member-requires c =
    let short = label-short c.args.file.now (λ i. (c.type_inv.file i).fits) in
    (omega arith, (omega (arith, ap length c.label.ensures.0, short), omega arith))
