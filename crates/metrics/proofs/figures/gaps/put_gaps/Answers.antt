-- Assumes nothing.
use Prim.Native.Nat.{◌≤◌}
use Rattle.metrics.proofs.GapLists.{recorded-all}
use Rattle.metrics.proofs.OneArrivalMore.{answers-end, marked_start, seen-start}
use Rattle.sample.specs.Decode.{decode}
use native.Mathlib.Omega.{arith}
use Rattle.metrics.proofs.figures.gaps.put_gaps.Goals as goal

pub note_to-requires : goal.note_to-requires
note_to-requires c =
    (omega arith, omega arith, rw c.new-seen.ensures (seen-start (decode c.args.file.now.file.now)), marked_start (decode c.args.file.now.file.now))

pub list_gaps-requires : goal.list_gaps-requires
list_gaps-requires c =
    let f = c.note_to.ensures in
    let all : c.args.file.now.layout.arrivals ≤ c.args.file.now.layout.arrivals = omega arith in (
      c.requires,
      recorded-all _ _ _ c.args.file.now.laid f.0.follows.recorded,
      rw (answers-end _ _ _ c.args.file.now.laid all) at f.1,
    )
