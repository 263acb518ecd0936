use Rattle.rfc4737.specs.Refusals.{refusal_if, number_outside}
use Rattle.owamp.proofs.InTurn.{Judging}
use Rattle.owamp.proofs.judge.judge_arrivals.Given as goal

-- the arrivals of the first i records are counted and judged
abbrev pub invariant-loop-i : goal.invariant-loop-i
invariant-loop-i l = Judging l.k l.records l.i l.arrivals (refusal_if l.number_outside number_outside)
