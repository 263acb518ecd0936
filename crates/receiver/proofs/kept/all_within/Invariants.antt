-- the values so far pass
use Rattle.std.proofs.Common.{◌≡◌, ℕ}
use lib.Dec.{leb}
use Rattle.rfc4737.specs.Refusals.{within}
use Rattle.receiver.specs.Parts.{oldest_first}
use Rattle.receiver.specs.Private.{first_pass}
use Rattle.receiver.proofs.kept.all_within.Given as goal

abbrev pub invariant-loop-i : goal.invariant-loop-i
invariant-loop-i l = l.fit ≡ first_pass (within 1 l.most) (oldest_first l.down l.values) l.i
