-- The loop's invariant: the figures are L, the greatest need, the first j counts, and zeros.
use Rattle.std.proofs.Common.{◌≡◌, ◌∷◌, take, replicate}
use Rattle.octets.specs.Memory.{splice}
use Rattle.metrics.specs.Figures.{step_count}
use Rattle.capi.proofs.buffering_calls.step_figures.Given as goal

abbrev pub invariant-loop-j : goal.invariant-loop-j
invariant-loop-j l =
    l.figures ≡ splice 2 (take l.j l.fn.counts) (l.fn.arrived ∷ l.fn.greatest ∷ replicate step_count 0)
