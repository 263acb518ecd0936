-- `capi::buffering_calls::krakobran_accommodated` meets its contract: the number is no measure and the call is refused, or it is that of
-- the measure of the call (Measured). Assumes nothing.
use Rattle.std.proofs.Common.{ap, [], ◌∷◌}
use Rattle.sample.specs.Decode.{decode}
use Rattle.metrics.specs.declared.SampleAccommodated.{SampleAccommodated}
use Rattle.capi.proofs.Measured.{accommodated-in-none, accommodated-in}
use Rattle.capi.proofs.buffering_calls.krakobran_accommodated.Goals as goal

pub returns-in_default : goal.returns-in_default
returns-in_default c =
    let a = c.args in
    let e = accommodated-in-none a.measure (decode a.file.now) c.in_default.ensures.none c.no_measure.result c.no_measure.ensures a.size in
    (ap (λ (s : SampleAccommodated). s.refusal) e, ap (λ (s : SampleAccommodated). s.accommodated ∷ s.arrived ∷ []) e)

pub returns : goal.returns
returns c =
    let a = c.args in
    let m = c.in-Some.ensures.some in
    let e = accommodated-in a.measure (decode a.file.now) m.1 _ m.0 a.size _ c.accommodated-found.ensures in
    (ap (λ (s : SampleAccommodated). s.refusal) e, ap (λ (s : SampleAccommodated). s.accommodated ∷ s.arrived ∷ []) e)
