-- `capi::buffering_calls::krakobran_least_size` meets its contract: the number is no measure and the call is refused, or it is that of
-- the measure of the call (Measured). Assumes nothing.
use Rattle.std.proofs.Common.{ap, [], ◌∷◌}
use Rattle.sample.specs.Decode.{decode}
use Rattle.buffering.specs.declared.SampleLeast.{SampleLeast}
use Rattle.capi.proofs.Measured.{least-in-none, least-in}
use Rattle.capi.proofs.buffering_calls.krakobran_least_size.Goals as goal

pub returns-in_default : goal.returns-in_default
returns-in_default c =
    let a = c.args in
    let e = least-in-none a.measure (decode a.file.now) c.in_default.ensures.none c.no_measure.result c.no_measure.ensures a.part a.whole in
    (ap (λ (s : SampleLeast). s.refusal) e, ap (λ (s : SampleLeast). s.size ∷ []) e)

pub returns : goal.returns
returns c =
    let a = c.args in
    let m = c.in-Some.ensures.some in
    let e = least-in a.measure (decode a.file.now) m.1 _ m.0 a.part a.whole _ c.least-found.ensures.value in
    (ap (λ (s : SampleLeast). s.refusal) e, ap (λ (s : SampleLeast). s.size ∷ []) e)
