-- LISTING_OCTETS octets are enough for any listing (`sample-within`). Assumes nothing.
use Rattle.metrics.proofs.Listed.{sample-within}
use Rattle.metrics.specs.Report.{sample_text}
use Rattle.sample.proofs.Output.{refusal-none}
use Rattle.sample.specs.Decode.{decode, decoded_refusal}
use Rattle.sample.specs.declared.Layout.{Layout}
use mathlib.Core.Path.{ap, sym, ◌∙◌}
use native.Mathlib.Omega.{arith}
use Rattle.metrics.proofs.report.check_room.Goals as goal

pub returns-then-room-ge-LISTING_OCTETS-clause-ok : goal.returns-then-room-ge-LISTING_OCTETS-clause-ok
returns-then-room-ge-LISTING_OCTETS-clause-ok c =
    let f = c.args.file.now in
    let own = ap (λ (y : Layout). y.refusal) f.laid.laid in
    sym (refusal-none (decoded_refusal (decode c.args.file.now.file.now)) (sample_text (decode c.args.file.now.file.now)) c.args.room (sym own ∙ c.if-file-ne-NONE.false)
    (omega (arith, c.if-room-ge-LISTING_OCTETS.true, sample-within f.file.now _ f.laid f.octets)))
