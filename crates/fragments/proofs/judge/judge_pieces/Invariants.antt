use Rattle.std.proofs.Common.{◌≡◌, map, take, drop}
use Rattle.rfc4737.specs.Arrivals.{each}
use Rattle.rfc4737.specs.Refusals.{first_refusal}
use Rattle.rfc4737.specs.Times.{greatest_time}
use Rattle.fragments.specs.Pieces.{arrival_of}
use Rattle.fragments.specs.Judge.{judge_after, judge_pieces}
use Rattle.fragments.specs.Arrivals.{pieces}
use Rattle.fragments.proofs.judge.judge_pieces.Given as goal

-- the reference is the greatest time of the first i arrivals; the first refusal of all is that of those from i on
abbrev pub invariant-loop-i : goal.invariant-loop-i
invariant-loop-i l = record {
  past : l.reference ≡ greatest_time (map arrival_of (take l.i (pieces l.arrivals)));
  rest : judge_pieces l.k (pieces l.arrivals) ≡ first_refusal (drop l.i (each (judge_after l.k) (pieces l.arrivals)));
}
