-- Each return is a case of the definition, in its order. Where few jumps are kept the step is the stream's beside its neighbour.
use Rattle.std.proofs.Common.{◌≡◌, sym, refl, ◌∙◌, arith}
use Rattle.rfc4737.proofs.Due.{between}
use Rattle.receiver.specs.Fit.{fit}
use Rattle.receiver.specs.Parts.{oldest_first}
use Rattle.meter.specs.Streams.{one, two}
use Rattle.meter.proofs.Meters.{side-outside, side-known, side-one, side-two, second-put, step-nowhere, step-many, beside-stepped}
use Rattle.meter.proofs.Meter.advance.Goals as goal

pub returns-then-outside : goal.returns-then-outside
returns-then-outside c = step-nowhere c.args.self.now _ _ _ (side-outside _ (sym c.outside.ensures ∙ c.if-outside.true))

pub returns-then-not-few : goal.returns-then-not-few
returns-then-not-few c =
    let w = side-known _ (sym c.outside.ensures ∙ c.if-outside.false) in
    step-many c.args.self.now _ _ _ w.0 w.1 (sym c.few.ensures ∙ c.if-not-few.true)

pub returns-then-stream-eq1 : goal.returns-then-stream-eq1
unfolding fit oldest_first
returns-then-stream-eq1 c =
    beside-stepped c.args.self.now _ _ _ one (side-one _ c.if-stream-eq1.true) (sym c.few.ensures ∙ c.if-not-few.false) _ _
    c.step_beside.ensures refl

pub returns-else-stream-eq1 : goal.returns-else-stream-eq1
unfolding fit oldest_first
returns-else-stream-eq1 c =
    let w = between 1 2 _ (sym c.outside.ensures ∙ c.if-outside.false) in
    let n : c.args.stream ≡ 2 = omega (arith, w.0, w.1, c.if-stream-eq1.false) in
    beside-stepped c.args.self.now _ _ _ two (side-two _ n) (sym c.few.ensures ∙ c.if-not-few.false) _ _
    c.step_beside-else-stream-eq1.ensures (second-put c.args.self.now _ _ _)
