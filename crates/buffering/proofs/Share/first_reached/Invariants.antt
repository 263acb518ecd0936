-- The loop's invariant: no count before j is enough.
use Rattle.std.proofs.Common.{◌≡◌, ℕ, ◌*◌, ◌<◌, leb, false, get_or}
use Rattle.buffering.proofs.Share.first_reached.Given as goal

abbrev pub invariant-loop-j : goal.invariant-loop-j
invariant-loop-j l =
    (k : ℕ) → k < l.j → leb (l.self.part * l.all) (l.self.whole * get_or l.counts k 0) ≡ false
