-- At most 4,096 lines are passed, and the judgement of all lines is that of the lines left, with their full numbers.
use Rattle.std.proofs.Common.{◌≡◌, ◌-◌, ◌≤◌, length, drop}
use Rattle.rfc4737.specs.Judge.{sent_most, arrivals_most}
use Rattle.textlog.specs.Decode.{decoded_lines, judge_lines}
use Rattle.textlog.specs.Numbers.{lines_by}
use Rattle.textlog.proofs.judge_lines.Given as goal

abbrev pub invariant-loop-at : goal.invariant-loop-at
invariant-loop-at g l =
    record {
      small : l.greatest ≤ sent_most;
      few : l.count ≤ arrivals_most;
      left : judge_lines l.k 0 0 (lines_by g.N.Numbers.full 0 (decoded_lines l.log))
          ≡ judge_lines l.k l.count l.reference (lines_by g.N.Numbers.full l.greatest (decoded_lines (drop l.at l.log)));
    }

abbrev pub decreases-loop-at : goal.decreases-loop-at
decreases-loop-at g l = length l.log - l.at
