-- Order (RFC 4737, section 3.3) and jumps (3.4), over the first arrivals before a packet. Assumes nothing.
use Rattle.std.specs.Prelude.{ℕ, ◌+◌, ◌-◌, Bool, cond, not, ◌&&◌, leb, eqb, length}
use mathlib.Core.List.{List, [], ◌∷◌, foldl, flatten}
use Rattle.rfc4737.specs.declared.Arrival.{Arrival}
use Rattle.rfc4737.specs.Arrivals.{each}

-- NextExp after the first arrival of packet s: s + 1 if it is in order, else as it was
unfoldable pub next_after : ℕ → ℕ → ℕ
next_after next s = cond (leb next s) (s + 1) next

-- NextExp after the first arrivals fs; 1 at the start
unfoldable pub next_exp : List Arrival → ℕ
next_exp fs = foldl (λ (next : ℕ) (a : Arrival). next_after next a.number) 1 fs

-- a first arrival is in order if its number is at least NextExp, else it is reordered
unfoldable pub is_in_order : List Arrival → ℕ → Bool
is_in_order fs s = leb (next_exp fs) s

-- the jump size of an in-order arrival (the RFC's sequence discontinuity size)
unfoldable pub jump_size : List Arrival → ℕ → ℕ
jump_size fs s = s - next_exp fs

-- a jump, a term of the scope (the RFC's sequence discontinuity): an in-order arrival whose jump size is not 0
unfoldable pub is_jump : List Arrival → ℕ → Bool
is_jump fs s = is_in_order fs s && not (eqb (jump_size fs s) 0)

-- a first arrival with its position
pub record FirstArrival : Type 0 where
  pub position : ℕ
  pub number : ℕ
  pub time : ℕ

-- the first arrival a with its position, after the first arrivals fs
abbrev pub place_after : List Arrival → Arrival → FirstArrival
place_after fs a = record { position = length fs + 1; number = a.number; time = a.time }

-- the first arrivals with their positions
unfoldable pub placed : List Arrival → List FirstArrival
placed fs = each place_after fs

-- the first arrival a in a list of one if it is a jump; else no jump
unfoldable pub jump_after : List Arrival → Arrival → List FirstArrival
jump_after fs a = cond (is_jump fs a.number) (place_after fs a ∷ []) []

-- the jumps among the first arrivals, in order of position
unfoldable pub jumps : List Arrival → List FirstArrival
jumps fs = flatten (each jump_after fs)
