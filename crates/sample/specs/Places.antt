-- The offsets of a file's values, by its layout, and what stands there: the values of its sample. Assumes nothing.
use Rattle.std.specs.Prelude.{ℕ, ◌+◌, ◌*◌, ◌≤◌, ◌<◌, ◌≡◌, cond, List, ltb, length, get_or}
use Rattle.octets.specs.BigEndian.{be_value}
use Rattle.octets.specs.Memory.{part}
use Rattle.rfc4737.specs.declared.Arrival.{Arrival}
use Rattle.sample.specs.Format.{size_width, arrival_width, items_at, sent_start, arrived_start}
use Rattle.sample.specs.Decode.{arrival_in, decode, sample_of, layout_of}
use Rattle.sample.specs.declared.Layout.{Layout}

-- the offset of the first payload size
abbrev pub sizes_at : Layout → ℕ
sizes_at layout = items_at (sent_start layout.label)

-- the offset of the first arrival
abbrev pub arrivals_at : Layout → ℕ
arrivals_at layout = items_at (arrived_start layout.label layout.sent)

-- the payload size of packet j + 1
unfoldable pub size_found : (file : List ℕ) (layout : Layout) (j : ℕ) → ℕ
size_found file layout j = be_value (part (sizes_at layout + size_width * j) size_width file)

-- what is read where there is no arrival
abbrev pub no_arrival : Arrival
no_arrival = record { number = 0; time = 0 }

-- the arrival of record i + 1; `no_arrival` if the file ends before its octets
unfoldable pub arrival_found : (file : List ℕ) (layout : Layout) (i : ℕ) → Arrival
arrival_found file layout i =
    let at = arrivals_at layout + arrival_width * i in
    cond (ltb (length file) (at + arrival_width)) no_arrival (arrival_in (part at arrival_width file))

-- ---- by the file's own layout these are the values of its sample

-- `size` is the payload size of packet j + 1
abbrev pub SizeOfSample : (file : List ℕ) (layout : Layout) (j size : ℕ) → Type 0
SizeOfSample file layout j size = layout ≡ layout_of (decode file) → j < layout.sent → size ≡ get_or (sample_of (decode file)).sizes j 0

-- `arrival` is the arrival of record i + 1
abbrev pub ArrivalOfSample : (file : List ℕ) (layout : Layout) (i : ℕ) (arrival : Arrival) → Type 0
ArrivalOfSample file layout i arrival =
    layout ≡ layout_of (decode file) → i < layout.arrivals → arrival ≡ get_or (sample_of (decode file)).arrivals i no_arrival

-- in a file of this layout the arrivals begin at offset `place`
pub record ArrivalsFrom (file : List ℕ) (layout : Layout) (place : ℕ) : Type 0 where
  -- the octets of record i + 1 lie within the file
  pub inside : (i : ℕ) → layout ≡ layout_of (decode file) → i < layout.arrivals → place + arrival_width * i + arrival_width ≤ length file
  -- and hold its arrival
  pub arrival : (i : ℕ) → ArrivalOfSample file layout i (arrival_in (part (place + arrival_width * i) arrival_width file))
