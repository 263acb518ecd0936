-- What private functions say to each other, which no public contract reaches: a fit state as facts, and the conditions and results of the
-- functions of a step. Assumes nothing.
use Rattle.std.specs.Prelude.{Option, None, Some, ℕ, zero, suc, ◌+◌, ◌<◌, ◌≤◌, Bool, true, false, cond, ◌&&◌, List, ◌∷◌, ◌++◌, map, ◌≡◌, ltb, length, get_or, set, take, drop}
use Rattle.rfc4737.specs.Order.{FirstArrival, next_after}
use Rattle.rfc4737.specs.Times.{next_reference}
use Rattle.rfc4737.specs.Judge.{sent_most, arrivals_most}
use Rattle.rfc4737.specs.Runs.{squares_most, lengthened}
use Rattle.receiver.specs.declared.Jump.{Jump}
use Rattle.receiver.specs.declared.Stream.{Stream}
use Rattle.receiver.specs.declared.Places.{Places}
use Rattle.receiver.specs.declared.Receiver.{Receiver}
use Rattle.receiver.specs.Limits.{window_places}
use Rattle.receiver.specs.Parts.{oldest_first}
use Rattle.receiver.specs.Kept.{held_of, kept_of}
use Rattle.receiver.specs.Fit.{every, jump_fit}

-- ---- a fit state, as facts

-- the facts of fit numbers
pub record StreamFit (s : Stream) : Type 0 where
  pub sent-low : 1 ≤ s.sent
  pub sent-high : s.sent ≤ sent_most
  pub arrived-high : s.arrived ≤ s.sent
  pub accepted-high : s.arrived + s.duplicates ≤ arrivals_most
  pub inorder-high : s.inorder ≤ s.arrived
  pub current-high : s.runs.current ≤ s.inorder
  pub closed-high : s.runs.closed ≤ s.arrived
  pub squares-high : s.runs.squares ≤ squares_most
  pub next_low : 1 ≤ s.next
  pub next-high : s.next ≤ s.sent + 1

-- the facts of a fit kept jump
pub record JumpFit (s : Stream) (p : FirstArrival) : Type 0 where
  pub position-low : 1 ≤ p.position
  pub position-high : p.position ≤ s.arrived
  pub number-low : 1 ≤ p.number
  pub number-high : p.number ≤ s.sent
  pub time-high : p.time ≤ s.greatest

-- the facts of fit places
pub record PlacesFit (s : Stream) (places : Places) : Type 0 where
  pub kept_high : s.kept ≤ window_places
  pub jumps-fit : every (map (jump_fit s) (kept_of (held_of s places))) ≡ true
  pub dropped-high : s.dropped ≤ s.sent

-- ---- a receiver in parts

-- each array of places has 64 values
abbrev pub Full : List ℕ → List ℕ → List ℕ → Type 0
Full positions numbers times = (length positions ≡ window_places) × ((length numbers ≡ window_places) × (length times ≡ window_places))

-- ---- a step

-- the facts of a state and an arrival that is not refused by the state, its number and its time
pub record Unrefused (r : Receiver) (number : ℕ) : Type 0 where
  pub stream : StreamFit r.stream
  pub places : PlacesFit r.stream r.places
  pub number-low : 1 ≤ number
  pub number-high : number ≤ r.stream.sent

-- the place of the first of `kept` numbers that is above s; `kept` if none is
pub record FirstAbove (numbers : List ℕ) (kept s place : ℕ) : Type 0 where
  pub place-high : place ≤ kept
  pub before : (k : ℕ) → k < place → ltb s (get_or numbers k 0) ≡ false
  pub above : place < kept → s < get_or numbers place 0

-- whether each of the first n of some values passes a test
unfoldable pub first_pass : (ℕ → Bool) → List ℕ → ℕ → Bool
first_pass t l zero = true
first_pass t l (suc n) = first_pass t l n && t (get_or l n 0)

-- the values of n kept jumps with a new one after them; if there is no room for it, the oldest is dropped and the others move one place
unfoldable pub pushed : Bool → ℕ → List ℕ → ℕ → List ℕ
pushed room n l v = cond room (set l n v) (drop 1 (take n l) ++ (v ∷ drop n l))

-- the place that was found, or how many are kept if none was
abbrev pub found_or : ℕ → Option ℕ → ℕ
found_or kept None = kept
found_or kept (Some i) = i

-- a kept jump, in the code's form and in that of the definitions
abbrev pub jump_of : Jump → FirstArrival
jump_of jump = record { position = jump.position; number = jump.number; time = jump.time }

-- the places with a jump stored in one
abbrev pub with_jump_at : Places → ℕ → FirstArrival → Places
with_jump_at places i p =
    record { positions = set places.positions i p.position; numbers = set places.numbers i p.number; times = set places.times i p.time }

-- the places that n kept jumps leave with a new one after them, the oldest dropped
abbrev pub pushed_places : ℕ → Places → FirstArrival → Places
pushed_places n places p =
    record {
      positions = pushed false n places.positions p.position;
      numbers = pushed false n places.numbers p.number;
      times = pushed false n places.times p.time;
    }

-- the numbers after an in-order arrival, but for its jump
abbrev pub counted_in_order : Stream → ℕ → ℕ → Stream
counted_in_order s number time =
    record {
      sent = s.sent;
      arrived = s.arrived + 1;
      duplicates = s.duplicates;
      inorder = s.inorder + 1;
      next = next_after s.next number;
      kept = s.kept;
      greatest = next_reference s.greatest time;
      runs = lengthened s.runs;
      dropped = s.dropped;
    }
