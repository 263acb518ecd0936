-- `capi::sample_calls::label_part` meets its contract: the layout of an accepted file has the length of its label. Assumes nothing.
use Rattle.std.proofs.Common.{◌≡◌, length, sym, ap}
use Rattle.sample.specs.Decode.{decode, decoded_refusal, sample_of}
use Rattle.sample.specs.Calls.{label_place}
use Rattle.sample.specs.declared.Layout.{Layout}
use Rattle.sample.proofs.Answers.{found-accepted}
use Rattle.capi.proofs.sample_calls.label_part.Goals as goal

pub returns : goal.returns
returns c =
    let f = c.args.file.now in
    let y = c.check-layout in
    let d = found-accepted f y.result y.ensures.value c.if-layout-ne-NONE.false in
    let n : y.result.label ≡ length (sample_of (decode f)).label = ap (λ (z : Layout). z.label) y.ensures.value in
    (λ i. record { refusal = decoded_refusal (sym d i); start = label_place (sym d i); length = n i })
