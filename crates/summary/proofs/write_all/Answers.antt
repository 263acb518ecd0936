-- `summary::write_all` meets its contract: the check lays the file out (`laid-out`), and `Others::hand_over` writes the summary and the other
-- figures, which are the sample's (`figures-known`). Assumes nothing.
use Rattle.std.proofs.Common.{◌≡◌, ◌++◌, ◌∙◌, ℕ, List, length, take, sym, ap, arith}
use Rattle.std.proofs.Math.Seq.{length-take-le}
use Rattle.sample.specs.declared.Layout.{Layout}
use Rattle.sample.specs.Decode.{Decoded, decode, layout_of}
use Rattle.metrics.specs.Sample.{answers_of}
use Rattle.metrics.specs.Records.{FileLayout}
use Rattle.summary.specs.Text.{summary_text}
use Rattle.summary.specs.All.{more_text, all_text}
use Rattle.summary.proofs.Pieces.{output-of, laid-out}
use Rattle.summary.proofs.Sections.{figures-known}
use Rattle.summary.proofs.write_all.Goals as goal

-- the whole text
whole : (d : Decoded) (y : Layout) {text : List ℕ} {records : ℕ} → y ≡ layout_of d → text ≡ summary_text d → records ≡ y.arrivals
    → text ++ more_text (answers_of d) records ≡ all_text d
unfolding all_text
whole d y {text} {records} e f g =
    ap (λ (l : List ℕ). l ++ more_text (answers_of d) records) f
    ∙ ap (λ (n : ℕ). summary_text d ++ more_text (answers_of d) n) (g ∙ ap (λ (y : Layout). y.arrivals) e)

pub write_text-requires : goal.write_text-requires
write_text-requires c =
    (laid-out _ _ c.check-layout.ensures.value (λ i. (c.type_inv.file i).fits), omega (arith, ap length c.new-text.ensures))

pub slice_bounds-gaps-end : goal.slice_bounds-gaps-end
slice_bounds-gaps-end c =
    let h : FileLayout (decode c.args.file.now) c.check-layout.result =
    laid-out _ _ c.check-layout.ensures.value (λ i. (c.type_inv.file i).fits) in
    omega (arith, h.few)

pub slice_bounds-others-end : goal.slice_bounds-others-end
slice_bounds-others-end c =
    let h : FileLayout (decode c.args.file.now) c.check-layout.result =
    laid-out _ _ c.check-layout.ensures.value (λ i. (c.type_inv.file i).fits) in
    sym (length-take-le _ _ (omega (arith, h.few)))

pub returns : goal.returns
returns c =
    let d = decode c.args.file.now in
    let y = c.check-layout.result in
    let e = c.check-layout.ensures.value in
    let h : FileLayout d y = laid-out _ _ e (λ i. (c.type_inv.file i).fits) in
    let all =
    figures-known d y h c.tally.ensures c.degrees_of-degrees.ensures c.record_gaps.ensures.gaps_to c.record_gaps.ensures.tell
    c.counts.ensures in
    let records : length (take y.arrivals c.record_gaps.new.gaps) ≡ y.arrivals = length-take-le _ _ (omega (arith, h.few)) in
    let summary = c.octets.ensures ∙ c.write_text.ensures.written ∙ ap (λ (l : List ℕ). l ++ summary_text d) c.new-text.ensures in
    let text = whole d y e summary records in
    let o = c.hand_over.ensures (answers_of d) all in
    record { all_to = output-of (ap (λ (y : Layout). y.refusal) e) text o.0; room = omega (arith, o.1, ap length text) }
