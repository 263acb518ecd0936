-- `summary::all::put_lines`: the lines of the figures before i are put from `start` on, and each has at most 47 octets.
use Rattle.std.proofs.Common.{◌≤◌, ◌+◌, ◌*◌}
use Rattle.writing.specs.Put.{Put}
use Rattle.summary.specs.Private.Lines.{figure_lines}
use Rattle.summary.proofs.all.put_lines.Given as goal

abbrev pub invariant-loop-i : goal.invariant-loop-i
invariant-loop-i l =
    record { put : Put l.start l.at (figure_lines l.kind l.figures l.i) l.initial.out l.out; room : l.at ≤ l.start + 47 * l.i }
