-- The kept jumps: those in the places, and how a new one changes them. Assumes nothing.
use Rattle.std.specs.Prelude.{ℕ, zero, suc, Bool, cond, List, [], ◌∷◌, ◌++◌, map, eqb, length, get_or, drop}
use Rattle.octets.specs.Memory.{over}
use Rattle.rfc4737.specs.Order.{FirstArrival}
use Rattle.receiver.specs.declared.Stream.{Stream}
use Rattle.receiver.specs.declared.Places.{Places}

-- the jump in a place
unfoldable pub place_at : Places → ℕ → FirstArrival
place_at places at =
    record {
      position = get_or places.positions at 0;
      number = get_or places.numbers at 0;
      time = get_or places.times at 0;
    }

-- the jumps of n places, from a place on
unfoldable pub places_from : Places → ℕ → ℕ → List FirstArrival
places_from places at zero = []
places_from places at (suc n) = place_at places at ∷ places_from places (suc at) n

-- the state of the jumps: how many are kept, the number of the last one dropped, and the places
pub record Held : Type 0 where
  pub kept : ℕ
  pub dropped : ℕ
  pub places : Places

-- the state of a stream's jumps in some places
abbrev pub held_of : Stream → Places → Held
held_of s places = record { kept = s.kept; dropped = s.dropped; places = places }

-- the kept jumps, the oldest first
unfoldable pub kept_of : Held → List FirstArrival
kept_of h = places_from h.places 0 h.kept

-- the jumps kept after a new one p: it goes after the kept ones; if there is no room for it, the oldest is dropped
unfoldable pub kept_with : Bool → List FirstArrival → FirstArrival → List FirstArrival
kept_with room kept p = cond room kept (drop 1 kept) ++ (p ∷ [])

-- the places with these jumps in them, from the first place on; the places after them are not written
unfoldable pub laid : List FirstArrival → Places → Places
laid kept places =
    record {
      positions = over (map (λ (p : FirstArrival). p.position) kept) places.positions;
      numbers = over (map (λ (p : FirstArrival). p.number) kept) places.numbers;
      times = over (map (λ (p : FirstArrival). p.time) kept) places.times;
    }

-- the state after a new jump p: the jumps kept then, laid in the places, and, if there was no room for p, the number of the oldest one,
-- which is dropped
unfoldable pub with_jump : Bool → Held → FirstArrival → Held
with_jump room h p =
    let kept = kept_with room (kept_of h) p in
    record {
      kept = length kept;
      dropped = cond room h.dropped (place_at h.places 0).number;
      places = laid kept h.places;
    }

-- the state after an in-order arrival p with a jump size: it is a jump if this is not 0
unfoldable pub held_after : Bool → Held → ℕ → FirstArrival → Held
held_after room h size p = cond (eqb size 0) h (with_jump room h p)
