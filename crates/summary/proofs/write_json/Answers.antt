-- `summary::write_json` meets its contract: the check lays the file out (`laid-out`), and a new text is empty. Assumes nothing.
use Rattle.std.proofs.Common.{length, ap, arith}
use Rattle.summary.proofs.Pieces.{laid-out}
use Rattle.summary.proofs.write_json.Goals as goal

pub write_object-requires : goal.write_object-requires
write_object-requires c =
    (laid-out _ _ c.check-layout.ensures.value (λ i. (c.type_inv.file i).fits), omega (arith, ap length c.new-text.ensures))
