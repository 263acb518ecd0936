-- Assumes nothing.
use Rattle.metrics.proofs.RecordsAsked.{degree-answered, degree-answered-refused}
use Rattle.metrics.specs.Private.Steps.{shares_of}
use Rattle.metrics.specs.declared.figures.Shares.{Shares}
use mathlib.Core.Path.{ap, refl, sym, ◌≡◌}
use native.Mathlib.Omega.{arith}
use Rattle.metrics.proofs.n_reordered.Goals as goal

pub returns-in-Err : goal.returns-in-Err
returns-in-Err c =
    let e = c.in-Err.ensures.err in
    rw (← c.new-file.ensures) (degree-answered-refused _ _ _ e.0 (λ (z : c.in-Err.refusal ≡ 0). omega (arith, e.1)))

pub returns : goal.returns
unfolding shares_of
returns c =
    let s = c.shares_of-shares.ensures in
    rw (← c.new-file.ensures) (degree-answered _ _ _ (sym c.in_default.ensures.ok) refl _ _ (ap (λ (t : Shares). t.low) s)
    (ap (λ (t : Shares). t.whole) s))
