-- The first k numbers of the row are put.
use Rattle.octets.specs.Memory.{splice}
use lib.ListN.{take}
use mathlib.Core.Path.{◌≡◌}
use Rattle.metrics.proofs.figures.rows.put_answer.Given as goal

abbrev pub invariant-loop-k : goal.invariant-loop-k
invariant-loop-k l = l.rows ≡ splice l.at (take l.k l.row) l.initial.rows
