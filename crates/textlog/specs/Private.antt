-- Definitions for the contracts of private functions, which no public contract reaches: what filling two lists needs. Assumes nothing.
use Rattle.std.specs.Prelude.{ℕ, ◌≤◌, List, ◌≡◌, length}
use Rattle.rfc4737.specs.Judge.{sent_most}
use Rattle.textlog.specs.Decode.{decoded_lines, judge_lines}
use Rattle.textlog.specs.Numbers.{lines_by}

-- a log with this many lines of which, for some K, none is refused, and two lists that have room for its arrivals
pub record Fillable (find : ℕ → ℕ → ℕ) (log : List ℕ) (arrivals : ℕ) (numbers times : List ℕ) : Type 0 where
  pub k : ℕ
  pub most : k ≤ sent_most
  pub accepted : (judge_lines k 0 0 (lines_by find 0 (decoded_lines log))).refusal ≡ 0
  pub many : arrivals ≡ length (lines_by find 0 (decoded_lines log))
  pub numbers_room : arrivals ≤ length numbers
  pub times_room : arrivals ≤ length times
