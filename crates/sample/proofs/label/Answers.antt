-- The layout is the file's, so its label lies between the count and the section of sent packets.
use Rattle.std.proofs.Common.{ℕ, ◌≡◌, ◌+◌, ◌-◌, ◌∙◌, sym, ap, arith}
use Rattle.octets.specs.Memory.{part}
use Rattle.sample.specs.Format.{count_width, items_at}
use Rattle.sample.specs.Decode.{Decoded, label_count, sample_in, sample_of}
use Rattle.sample.specs.Calls.{label_place}
use Rattle.sample.specs.declared.Layout.{Layout}
use Rattle.sample.proofs.Decoded.{refused_none}
use Rattle.sample.proofs.Answers.{found-refusal, found-accepted, found-counts}
use Rattle.sample.proofs.label.Goals as goal

pub slice_bounds-result-end-2 : goal.slice_bounds-result-end-2
slice_bounds-result-end-2 c =
    let f = c.args.file.now in
    let y = c.in-Ok in
    let w = refused_none f (found-refusal f y.layout y.ensures.value ∙ y.ensures.accepted) in
    let n = ap (λ (x : Layout). x.label) (found-counts f y.layout y.ensures.value y.ensures.accepted) in
    let e = w.ends in
    omega arith

pub returns : goal.returns
unfolding sample_in
returns c =
    let f = c.args.file.now in
    let o = c.args.file.ref_ptr in
    let y = c.in-Ok in
    let d = found-accepted f y.layout y.ensures.value y.ensures.accepted in
    let n = ap (λ (x : Layout). x.label) (found-counts f y.layout y.ensures.value y.ensures.accepted) in
    let k : c.end_of-end.result - count_width ≡ label_count f = omega arith in (
      ap (λ (m : ℕ). part (items_at 0) m f) k ∙ sym (ap (λ (x : Decoded). (sample_of x).label) d),
      ap (λ (x : Decoded). (o.0, label_place x + o.1)) (sym d),
    )
