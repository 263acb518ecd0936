-- All lines are taken where nothing is compared; they are few (`sample-within`). Assumes nothing.
use Rattle.metrics.proofs.Listed.{sample-within}
use Rattle.metrics.proofs.Passing.{whole-part}
use Rattle.metrics.specs.Report.{sample_text}
use Rattle.octets.proofs.Memory.{over-splice}
use Rattle.sample.specs.Decode.{decode}
use lib.ListN.{length}
use mathlib.Core.Bool.{true≢false}
use mathlib.Core.Path.{refl, sym, ◌∙◌, ◌≡◌}
use native.Mathlib.Omega.{arith}
use Rattle.metrics.proofs.report.write_listing.Goals as goal

pub take_all-requires : goal.take_all-requires
take_all-requires c =
    record { room = λ e. absurd (true≢false (sym e)); inside = λ e. absurd (true≢false (sym e)) }

pub overflow_cast-result : goal.overflow_cast-result
overflow_cast-result c =
    omega (
      arith,
      c.unwrap_or.ensures,
      whole-part c.take_all.result (length (sample_text (decode c.args.file.now.file.now))) (c.take_all.ensures.listed refl).0,
      sample-within c.args.file.now.file.now _ c.args.file.now.laid c.args.file.now.octets,
    )

pub returns : goal.returns
returns c =
    let r = c.take_all.ensures.listed refl in
    let n : c.unwrap_or.result ≡ length (sample_text (decode c.args.file.now.file.now)) = c.unwrap_or.ensures ∙ whole-part c.take_all.result _ r.0 in
    (n, λ fits. r.1 (omega (arith, fits, n)) ∙ sym (over-splice (sample_text (decode c.args.file.now.file.now)) c.args.out.now))
