-- Each return is a case of the definition, in its order.
use Rattle.std.proofs.Common.{◌≡◌, sym, ◌∙◌, arith}
use Rattle.rfc4737.proofs.Due.{between}
use Rattle.meter.specs.Streams.{one, two}
use Rattle.meter.proofs.Meters.{side-outside, side-known, side-one, side-two, start-nowhere, start-unfit, start_outside, start-done}
use Rattle.meter.proofs.Meter.restart.Goals as goal

pub returns-then-outside : goal.returns-then-outside
returns-then-outside c = start-nowhere c.args.self.now _ _ (side-outside _ (sym c.outside.ensures ∙ c.if-outside.true))

pub returns-then-not-is_fit : goal.returns-then-not-is_fit
returns-then-not-is_fit c =
    let s = side-known _ (sym c.outside.ensures ∙ c.if-outside.false) in
    start-unfit c.args.self.now _ _ s.0 s.1 (sym c.is_fit.ensures ∙ c.if-not-is_fit.true)

pub returns-then-outside-2 : goal.returns-then-outside-2
returns-then-outside-2 c =
    let s = side-known _ (sym c.outside.ensures ∙ c.if-outside.false) in
    start_outside c.args.self.now _ _ s.0 s.1 (sym c.is_fit.ensures ∙ c.if-not-is_fit.false) (sym c.outside-2.ensures ∙ c.if-outside-2.true)

pub returns-then-stream-eq1 : goal.returns-then-stream-eq1
returns-then-stream-eq1 c =
    rw c.restart.ensures
    (start-done c.args.self.now _ _ one (side-one _ c.if-stream-eq1.true) (sym c.is_fit.ensures ∙ c.if-not-is_fit.false)
    (sym c.outside-2.ensures ∙ c.if-outside-2.false))

pub returns-else-stream-eq1 : goal.returns-else-stream-eq1
returns-else-stream-eq1 c =
    let w = between 1 2 _ (sym c.outside.ensures ∙ c.if-outside.false) in
    let n : c.args.stream ≡ 2 = omega (arith, w.0, w.1, c.if-stream-eq1.false) in
    rw c.restart-else-stream-eq1.ensures
    (start-done c.args.self.now _ _ two (side-two _ n) (sym c.is_fit.ensures ∙ c.if-not-is_fit.false)
    (sym c.outside-2.ensures ∙ c.if-outside-2.false))
