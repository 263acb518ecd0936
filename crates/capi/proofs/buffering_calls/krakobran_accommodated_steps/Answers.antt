-- `capi::buffering_calls::krakobran_accommodated_steps` meets its contract: the number is no measure and the call is refused, or it is
-- that of the measure of the call (Measured). Assumes nothing.
use Rattle.sample.specs.Decode.{decode}
use Rattle.metrics.proofs.Accommodation.{steps-many}
use Rattle.capi.proofs.Measured.{steps-in-none, steps-in}
use Rattle.capi.proofs.buffering_calls.krakobran_accommodated_steps.Goals as goal

pub returns-in_default : goal.returns-in_default
returns-in_default c =
    let a = c.args in
    steps-in-none a.measure (decode a.file.now) c.in_default.ensures.none c.no_measure.result c.no_measure.ensures a.low a.shift

pub step_figures-requires : goal.step_figures-requires
step_figures-requires c = steps-many _ _ _ _ _ c.accommodated_steps-found.ensures

pub returns : goal.returns
returns c =
    let a = c.args in
    let m = c.in-Some.ensures.some in
    let s = c.accommodated_steps-found in
    steps-in a.measure (decode a.file.now) m.1 _ m.0 a.low a.shift s.result _ s.ensures c.step_figures.ensures
