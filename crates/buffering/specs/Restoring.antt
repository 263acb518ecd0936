-- A receiver that restores order, with a waiting time w, and what the figures of RFC 4737 say of it. It holds each first arrival until
-- every smaller number has arrived or is given up, or until w after its own arrival, whichever comes first. Then it passes the packet on,
-- after the smaller ones that it holds. A number is given up when a greater one is passed on. Copies are discarded. A first arrival is in
-- time if no packet with a greater number has been passed on before it comes; what falls due at the very time of an arrival is passed on
-- after it. The receiver itself names no figure of RFC 4737: `Restores` says which figure tells what it does. Assumes nothing.
use Rattle.std.specs.Prelude.{ℕ, zero, suc, ◌+◌, ◌-◌, ◌≤◌, ◌≡◌, Bool, true, false, cond, not, ◌&&◌, ◌||◌, ltb, length}
use mathlib.Core.List.{List, [], ◌∷◌, ◌++◌, map, foldl}
use Rattle.rfc4737.specs.declared.Arrival.{Arrival}
use Rattle.rfc4737.specs.Arrivals.{has, firsts, each, count}
use Rattle.rfc4737.specs.Times.{steps_back}
use Rattle.rfc4737.specs.Answer.{answer_to, answers}
use Rattle.rfc4737.specs.declared.Measure.{Measure}
use Rattle.sample.specs.Decode.{Decoded, sample_of}
use Rattle.metrics.specs.Sample.{size_of, sample_arrivals}
use Rattle.rfc4737.specs.Needs.{needed_for, greatest, greatest_need, accommodates, accommodated}

-- ---- the receiver

-- what it knows of a packet that has arrived: when, and whether it has been passed on; one that has not is held
pub record Packet : Type 0 where
  pub arrival : Arrival
  pub passed : Bool

abbrev pub arrivals_of : List Packet → List Arrival
arrivals_of ps = map (λ (p : Packet). p.arrival) ps

-- whether a packet with a number greater than s has been passed on
unfoldable pub overtaken : ℕ → List Packet → Bool
overtaken s [] = false
overtaken s (p ∷ ps) = (p.passed && ltb s p.arrival.number) || overtaken s ps

-- the packets that are ready are passed on
unfoldable pub pass_on : (Arrival → Bool) → List Packet → List Packet
pass_on ready ps = map (λ (p : Packet). record { arrival = p.arrival; passed = p.passed || ready p.arrival }) ps

-- each of the numbers 1 to n has arrived, or is given up
unfoldable pub settled_to : List Packet → ℕ → Bool
settled_to ps zero = true
settled_to ps (suc n) = settled_to ps n && (has (suc n) (arrivals_of ps) || overtaken (suc n) ps)

-- every packet that has no smaller number to wait for is passed on
unfoldable pub settle : List Packet → List Packet
settle ps = pass_on (λ (a : Arrival). settled_to ps (a.number - 1)) ps

-- whether a packet with a number greater than s arrived more than w before the time t
unfoldable pub overdue : ℕ → ℕ → ℕ → List Arrival → Bool
overdue w t s [] = false
overdue w t s (b ∷ l) = (ltb s b.number && ltb (b.time + w) t) || overdue w t s l

-- what has happened until the time t: each packet that arrived more than w before was passed on, and with it those with smaller numbers
unfoldable pub until : ℕ → ℕ → List Packet → List Packet
until w t ps = settle (pass_on (λ (a : Arrival). ltb (a.time + w) t || overdue w t a.number (arrivals_of ps)) ps)

-- the packets after the next first arrival
unfoldable pub receive : ℕ → List Packet → Arrival → List Packet
receive w ps a = settle (until w a.time ps ++ (record { arrival = a; passed = false } ∷ []))

-- the packets after some first arrivals
unfoldable pub received : ℕ → List Arrival → List Packet
received w fs = foldl (receive w) [] fs

-- whether an arrival is a first one and in time, after the arrivals before it
unfoldable pub in_time : ℕ → List Arrival → Arrival → Bool
in_time w earlier a = not (has a.number earlier) && not (overtaken a.number (until w a.time (received w (firsts earlier))))

-- how many arrivals are first ones and in time
unfoldable pub in_time_count : ℕ → List Arrival → ℕ
in_time_count w l = count (λ (b : Bool). b) (each (in_time w) l)

-- the sum of the sizes of the packets that the receiver holds; their number, if each size is 1
unfoldable pub held : (ℕ → ℕ) → List Packet → ℕ
held size [] = 0
held size (p ∷ ps) = cond p.passed 0 (size p.arrival.number) + held size ps

-- the most that it ever holds: the greatest sum after any arrival
unfoldable pub most_held : ℕ → (ℕ → ℕ) → List Arrival → ℕ
most_held w size l = greatest (each (λ (earlier : List Arrival) (a : Arrival). held size (received w (firsts (earlier ++ (a ∷ []))))) l)

-- ---- what the figures say of the receiver

-- each of the packets 1 to k arrives
abbrev pub AllArrive : ℕ → List Arrival → Type 0
AllArrive k l = (s : ℕ) → 1 ≤ s → s ≤ k → has s l ≡ true

-- a waiting time, a storage in octets and one in packets that are enough together: every first arrival is in time, and neither more
-- octets nor more packets are ever held
pub record EnoughAtOnce (size : ℕ → ℕ) (l : List Arrival) (wait octets packets : ℕ) : Type 0 where
  pub intime : in_time_count wait l ≡ length (firsts l)
  pub storage : most_held wait size l ≤ octets
  pub places : most_held wait (λ _. 1) l ≤ packets

-- for arrivals l of the packets 1 to k with these sizes, and for every waiting time w. What bounds the packets held assumes that all
-- packets arrive: a packet that waits for one that never comes is held, and no late time, extent or byte offset shows it
pub record Restores (k : ℕ) (size : ℕ → ℕ) (l : List Arrival) : Type 0 where
  -- if the clock does not step back, the arrivals in time are, record by record, those that a buffer of the time w accommodates; so there
  -- are as many
  pub which : (w : ℕ) → steps_back 0 l ≡ false → each (in_time w) l ≡ map (accommodates Measure.Time w) (answers size l)
  pub many : (w : ℕ) → steps_back 0 l ≡ false → in_time_count w l ≡ accommodated Measure.Time w (answers size l)
  -- if all packets arrive, never more octets are held than the greatest need in octets, nor more packets than that in packets
  pub octets : (w : ℕ) → AllArrive k l → most_held w size l ≤ greatest_need Measure.Octets (answers size l)
  pub packets : (w : ℕ) → AllArrive k l → most_held w (λ _. 1) l ≤ greatest_need Measure.Packets (answers size l)
  -- if, besides, the clock does not step back and w is at least the greatest waiting time needed, the most octets held are exactly the
  -- greatest need
  pub most : (w : ℕ) → AllArrive k l → steps_back 0 l ≡ false → greatest_need Measure.Time (answers size l) ≤ w
      → most_held w size l ≡ greatest_need Measure.Octets (answers size l)
  -- so the three greatest needs are enough together
  pub enough : AllArrive k l → steps_back 0 l ≡ false
      → EnoughAtOnce size l (greatest_need Measure.Time (answers size l)) (greatest_need Measure.Octets (answers size l))
      (greatest_need Measure.Packets (answers size l))

-- for the sample of a decoded file; a refused file has the empty sample
abbrev pub RestoresFile : Decoded → Type 0
RestoresFile d = Restores (length (sample_of d).sizes) (size_of d) (sample_arrivals d)

-- for any waiting time and any clock, with packets lost or not: a packet in time finds at least its byte offset held, and until the next
-- arrival the receiver holds no more than before
pub record HoldsOffset : Type 0 where
  pub found : (w : ℕ) (size : ℕ → ℕ) (before : List Arrival) (a : Arrival) → in_time w before a ≡ true
      → needed_for Measure.Octets (answer_to size before a) ≤ held size (until w a.time (received w (firsts before)))
  pub falls : (w t : ℕ) (size : ℕ → ℕ) (ps : List Packet) → held size (until w t ps) ≤ held size ps

-- each of some packets with a smaller number than one of `all` that was passed on has been passed on too
abbrev pub NoneBehind : List Packet → List Packet → Type 0
NoneBehind all [] = Unit
NoneBehind all (p ∷ ps) = (overtaken p.arrival.number all ≡ true → p.passed ≡ true) × NoneBehind all ps

-- the receiver restores order: at no time does it hold a packet with a smaller number than one that it has passed on
pub record RestoresOrder : Type 0 where
  pub after : (w : ℕ) (fs : List Arrival) → NoneBehind (received w fs) (received w fs)
  pub between : (w t : ℕ) (ps : List Packet) → NoneBehind (until w t ps) (until w t ps)
