use Rattle.std.proofs.Common.{◌≡◌, ◌+◌, length}
use Rattle.fragments.specs.Places.{arrivals_to, NotedTo}
use Rattle.fragments.specs.Arrivals.{pieces}
use Rattle.fragments.proofs.Packets.{PlacedFrom}
use Rattle.fragments.proofs.notes.note_packets.Given as goal

-- the arrivals of the first p packets are noted, and `from` is their number; the places after them are as they were
abbrev pub invariant-loop-p : goal.invariant-loop-p
invariant-loop-p l = record {
  start : l.from ≡ arrivals_to l.arrivals.numbers.now l.p;
  placed : PlacedFrom l.arrivals.numbers.now (length l.ends) l.p l.places;
  noted : NotedTo (pieces l.arrivals) (l.p + 1) l.marks l.wholes;
}
