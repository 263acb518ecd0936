-- The loop's invariant: the lists and the table are as after the first i records, and the lists are the caller's.
use Rattle.sample.specs.Decode.{decode}
use Rattle.sweep.specs.Private.{SameLists, lent_in}
use Rattle.sweep.proofs.PassInvariant.{LentAfter}
use Rattle.sweep.proofs.pass.pass.Given as goal

abbrev pub invariant-loop-i : goal.invariant-loop-i
invariant-loop-i l =
    LentAfter (decode l.checked.file.now) l.checked.layout l.i (lent_in l.initial.table l.initial.lists) (lent_in l.table l.lists) l.state
    × SameLists l.initial.lists l.lists
