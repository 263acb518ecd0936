-- no place passed holds a greater number
use Rattle.std.proofs.Common.{◌≡◌, ℕ, ◌<◌, false, ltb, get_or}
use Rattle.receiver.specs.Parts.{oldest_first}
use Rattle.receiver.proofs.Places.above.Given as goal

abbrev pub invariant-loop-i : goal.invariant-loop-i
invariant-loop-i l = (k : ℕ) → k < l.i → ltb l.number (get_or (oldest_first l.down l.self.numbers) k 0) ≡ false
