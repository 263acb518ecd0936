use Rattle.std.proofs.Common.{◌≡◌, ◌∷◌, drop}
use Rattle.rfc4737.specs.Refusals.{first_refusal}
use Rattle.owamp.specs.Judge.{judge_time}
use Rattle.owamp.proofs.Greatest.{refusals}
use Rattle.owamp.proofs.judge.judge_seconds.Given as goal

-- the first refusal of all arrivals is that of the greatest time so far or, if there is none, of the arrivals from i on
abbrev pub invariant-loop-i : goal.invariant-loop-i
invariant-loop-i l = first_refusal (refusals l.file) ≡ first_refusal (judge_time l.greatest ∷ drop l.i (refusals l.file))
