use Rattle.std.proofs.Common.{ℕ, ◌-◌, ◌^◌, ◌<◌, ◌≤◌, length, slice_index}
use Rattle.sums.specs.Tree.{rest}
use Rattle.sums.proofs.PartlyAdded.{Partly}
use Rattle.sums.proofs.add.Given as goal

-- index i holds the number, and the value has been added at the indices before it; the values before were of 32 bits
abbrev pub invariant-loop-i : goal.invariant-loop-i
invariant-loop-i l = (l.number ≤ l.i) × (rest l.i < l.number) × Partly l.number l.value l.i l.initial.tree l.tree
    × ((j : ℕ) → slice_index l.initial.tree j < 2 ^ 32)

abbrev pub decreases-loop-i : goal.decreases-loop-i
decreases-loop-i l = length l.initial.tree - l.i
