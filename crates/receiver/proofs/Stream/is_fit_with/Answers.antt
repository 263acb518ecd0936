use Rattle.std.proofs.Common.{sym, ◌∙◌, arith}
use Rattle.receiver.specs.Fit.{fit}
use Rattle.receiver.proofs.Fits.{stream-facts}
use Rattle.receiver.proofs.Stream.is_fit_with.Goals as goal

pub are_fit-requires : goal.are_fit-requires
are_fit-requires c =
    let h = stream-facts _ (sym c.is_fit.ensures ∙ c.if-is_fit.true) in
    (h.sent-high, omega (arith, h.arrived-high, h.sent-high))

pub returns-then-is_fit : goal.returns-then-is_fit
unfolding fit
returns-then-is_fit c = simp (sym c.is_fit.ensures ∙ c.if-is_fit.true, c.are_fit.ensures)

pub returns-else-is_fit : goal.returns-else-is_fit
unfolding fit
returns-else-is_fit c = c.if-is_fit.false ∙ simp (sym c.is_fit.ensures ∙ c.if-is_fit.false)
