-- Receive times and whole microseconds. A receive time has 32 bits of seconds and 32 bits of fraction. Here it is one number of 64 bits,
-- which counts units of 2^-32 seconds. Assumes nothing.
use Rattle.std.specs.Prelude.{ℕ, ◌+◌, ◌-◌, ◌*◌, ◌/◌, ◌%◌, ◌<◌, min, ◌≡◌}
use mathlib.Core.List.{List, [], ◌∷◌, foldl, map}
use Rattle.rfc4737.specs.declared.Arrival.{Arrival}
use Rattle.rfc4737.specs.Judge.{times_of}

-- fractions in a second
abbrev pub fractions : ℕ
fractions = 4294967296

-- microseconds in a second
abbrev pub micros : ℕ
micros = 1000000

-- ---- from receive times

-- a receive time in whole microseconds, rounded down
unfoldable pub microseconds : ℕ → ℕ
microseconds stamp = stamp * micros / fractions

-- what rounding takes off, in microseconds, times 2^32
unfoldable pub taken_off : ℕ → ℕ
taken_off stamp = stamp * micros % fractions

-- the exact time is stamp * 10^6 / 2^32 microseconds. The whole microseconds are below it by taken_off / 2^32, which is at least 0 and
-- under 1
pub record Distance (stamp : ℕ) : Type 0 where
  pub exact : microseconds stamp * fractions + taken_off stamp ≡ stamp * micros
  pub under : taken_off stamp < fractions

-- this holds for every receive time
abbrev pub RoundedDown : Type 0
RoundedDown = (stamp : ℕ) → Distance stamp

-- the smallest number of a list; 0 for the empty list
abbrev pub smallest : List ℕ → ℕ
smallest [] = 0
smallest (t ∷ ts) = foldl min t ts

-- an arrival with its time in whole microseconds since `base`
abbrev pub since : ℕ → Arrival → Arrival
since base a = record { number = a.number; time = microseconds a.time - base }

-- arrivals with their times in whole microseconds since the smallest
unfoldable pub from_smallest : List Arrival → List Arrival
from_smallest l = map (since (smallest (map microseconds (times_of l)))) l

-- ---- to receive times

-- the seconds of a written receive time: the seconds of the sample's time, plus 1, since a receive time of 0 means a lost packet
abbrev pub written_seconds : ℕ → ℕ
written_seconds t = t / micros + 1

-- its fraction, rounded down
abbrev pub written_fraction : ℕ → ℕ
written_fraction t = t % micros * fractions / micros
