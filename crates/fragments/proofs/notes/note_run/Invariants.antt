use Rattle.std.proofs.Common.{◌≡◌, ◌-◌, ◌<◌, get_or}
use Rattle.std.specs.Prelude.{MatchOption}
use Rattle.fragments.specs.Private.{no_piece}
use Rattle.fragments.specs.Places.{key_of}
use Rattle.fragments.specs.Arrivals.{pieces}
use Rattle.fragments.proofs.Noting.{NotingTo}
use Rattle.fragments.proofs.notes.note_run.Given as goal

-- the first of the run are noted, and `last` is the key of the last of these
abbrev pub invariant-loop-place : goal.invariant-loop-place
invariant-loop-place l = record {
  noted : NotingTo (pieces l.arrivals) l.s l.run l.place-index l.marks l.wholes;
  key : MatchOption l.last (l.place-index ≡ 0)
      (λ k. (0 < l.place-index) × (k ≡ key_of (get_or (pieces l.arrivals) (get_or l.run (l.place-index - 1) 0) no_piece)));
}
