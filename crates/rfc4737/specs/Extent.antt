-- Of a reordered packet: its discontinuity and extent (RFC 4737, section 4.2), late time (4.3), byte offset (4.4) and
-- largest n (5.3). s is its number and fs the first arrivals before it. Assumes nothing.
use Rattle.std.specs.Prelude.{ℕ, ◌+◌, ◌-◌, cond, ltb, get_or}
use mathlib.Core.List.{List, [], ◌∷◌, foldl}
use Rattle.std.proofs.Math.Option.{Option, none, some}
use Rattle.rfc4737.specs.declared.Arrival.{Arrival}
use Rattle.rfc4737.specs.declared.LateTime.{LateTime}
use Rattle.rfc4737.specs.declared.LateTime.TheVariants.{After}
use Rattle.rfc4737.specs.Order.{FirstArrival, placed}
use Rattle.rfc4737.specs.Times.{elapsed}

-- the earliest of the first arrivals that has a number greater than s, if there is one
unfoldable pub first_above : ℕ → List FirstArrival → Option FirstArrival
first_above s [] = none
first_above s (p ∷ ps) = cond (ltb s p.number) (some p) (first_above s ps)

-- the discontinuity of a reordered packet: the arrival at the smallest j with s[j] > s
unfoldable pub discontinuity : List Arrival → ℕ → Option FirstArrival
discontinuity fs s = first_above s (placed fs)

-- the extent of a packet at position i: i - j. Every reordered packet has a j (`ReorderedHaveDiscontinuity`)
unfoldable pub extent_from : ℕ → Option FirstArrival → ℕ
extent_from i none = 0
extent_from i (some j) = i - j.position

-- the late time of a packet that arrives at time t: after or before the arrival time of j, and by how much
unfoldable pub late_from : ℕ → Option FirstArrival → LateTime
late_from t none = After 0
late_from t (some j) = elapsed j.time t

-- the payload size of packet s: the first size belongs to packet 1
unfoldable pub size_in : List ℕ → ℕ → ℕ
size_in sizes s = get_or sizes (s - 1) 0

-- the byte offset: the sum of the payload sizes of all earlier first arrivals with a greater number
unfoldable pub byte_offset : (ℕ → ℕ) → List Arrival → ℕ → ℕ
byte_offset size fs s = foldl (λ (n : ℕ) (a : Arrival). n + cond (ltb s a.number) (size a.number) 0) 0 fs

-- the largest n for which a packet is n-reordered, a term of the scope. It counts the positions directly before the packet that hold
-- greater numbers without a break
unfoldable pub largest_n : List Arrival → ℕ → ℕ
largest_n fs s = foldl (λ (n : ℕ) (a : Arrival). cond (ltb s a.number) (n + 1) 0) 0 fs
