-- Fit states. "A state is unfit if K is outside 1 to 4,096, L > K, L and duplicates together > 4,096, in-order > L, open
-- run > in-order, closed runs > L, squares > 16,777,216, NextExp outside 1 to K + 1, more than 64 kept jumps, a kept jump
-- with position outside 1 to L, number outside 1 to K or time after the greatest, or a dropped number > K." Fit and unfit are
-- terms of the scope. Assumes nothing.
use Rattle.std.specs.Prelude.{◌+◌, Bool, true, ◌&&◌, List, [], ◌∷◌, map, leb}
use Rattle.rfc4737.specs.Order.{FirstArrival}
use Rattle.rfc4737.specs.Refusals.{within}
use Rattle.rfc4737.specs.Judge.{sent_most, arrivals_most}
use Rattle.rfc4737.specs.Runs.{squares_most}
use Rattle.receiver.specs.declared.Stream.{Stream}
use Rattle.receiver.specs.declared.Places.{Places}
use Rattle.receiver.specs.declared.Receiver.{Receiver}
use Rattle.receiver.specs.Limits.{window_places}
use Rattle.receiver.specs.Kept.{held_of, kept_of}

-- whether every one of some tests holds
unfoldable pub every : List Bool → Bool
every [] = true
every (b ∷ bs) = b && every bs

-- whether K, L, duplicates, in-order count, runs and NextExp are fit
unfoldable pub stream_fit : Stream → Bool
stream_fit s =
    every
    (within 1 sent_most s.sent
    ∷ leb s.arrived s.sent
    ∷ leb (s.arrived + s.duplicates) arrivals_most
    ∷ leb s.inorder s.arrived
    ∷ leb s.runs.current s.inorder
    ∷ leb s.runs.closed s.arrived
    ∷ leb s.runs.squares squares_most
    ∷ within 1 (s.sent + 1) s.next
    ∷ [])

-- whether a kept jump is fit, under K, L and the greatest time
unfoldable pub jump_fit : Stream → FirstArrival → Bool
jump_fit s p =
    every (within 1 s.arrived p.position ∷ within 1 s.sent p.number ∷ leb p.time s.greatest ∷ [])

-- whether the kept jumps in some places are fit, and the dropped number
unfoldable pub places_fit : Stream → Places → Bool
places_fit s places =
    every
    (leb s.kept window_places
    ∷ every (map (jump_fit s) (kept_of (held_of s places)))
    ∷ leb s.dropped s.sent
    ∷ [])

-- whether a state is fit
unfoldable pub fit : Receiver → Bool
fit r = stream_fit r.stream && places_fit r.stream r.places
