-- The sample file: three sections in a fixed order, each after its count of two octets. All numbers are big-endian.
-- Assumes nothing.
use Rattle.std.specs.Prelude.{ℕ, zero, suc, ◌+◌, ◌*◌, List, [], ◌∷◌, ◌++◌, length, take, drop}
use Rattle.octets.specs.BigEndian.{be_octets}
use Rattle.rfc4737.specs.declared.Arrival.{Arrival}
use Rattle.rfc4737.specs.Judge.{sent_most, arrivals_most}

-- a sample: its label, the payload size of each sent packet from packet 1 on, and the arrivals in order of arrival. K is the number of
-- sizes, A the number of arrivals
pub record Sample : Type 0 where
  pub label : List ℕ
  pub sizes : List ℕ
  pub arrivals : List Arrival

-- the greatest length of a label, in octets
abbrev pub label_most : ℕ
label_most = 64

-- the least octet of a label
abbrev pub shown_least : ℕ
shown_least = 0x20

-- the greatest octet of a label
abbrev pub shown_most : ℕ
shown_most = 0x7E

-- ---- the layout: the width of each field in octets, and the offsets of the sections, by their counts alone

-- the count of a section
abbrev pub count_width : ℕ
count_width = 2

-- one octet of the label
abbrev pub octet_width : ℕ
octet_width = 1

-- a payload size
abbrev pub size_width : ℕ
size_width = 2

-- a sequence number
abbrev pub number_width : ℕ
number_width = 4

-- an arrival time, in microseconds
abbrev pub time_width : ℕ
time_width = 8

-- an arrival: its number, then its time
abbrev pub arrival_width : ℕ
arrival_width = number_width + time_width

-- the offset of the items of a section that begins at `at`
abbrev pub items_at : (at : ℕ) → ℕ
items_at at = at + count_width

-- the offset after a section that begins at `at`, with `count` items of `width` octets each
abbrev pub end_of : (at width count : ℕ) → ℕ
end_of at width count = items_at at + width * count

-- the offset of the section of sent packets; the label's section, before it, begins at 0
abbrev pub sent_start : (label : ℕ) → ℕ
sent_start label = end_of 0 octet_width label

-- the offset of the section of arrivals
abbrev pub arrived_start : (label sent : ℕ) → ℕ
arrived_start label sent = end_of (sent_start label) size_width sent

-- the offset after the last section
abbrev pub last_end : (label sent arrivals : ℕ) → ℕ
last_end label sent arrivals = end_of (arrived_start label sent) arrival_width arrivals

-- the length of the longest sample: 57,414 octets
abbrev pub longest : ℕ
longest = last_end label_most sent_most arrivals_most

-- ---- the octets of a sample

-- a section: the count of its items, then its items' octets
unfoldable pub section : (count : ℕ) (octets : List ℕ) → List ℕ
section count octets = be_octets count_width count ++ octets

-- a payload size
abbrev pub size_octets : ℕ → List ℕ
size_octets size = be_octets size_width size

-- an arrival
unfoldable pub arrival_octets : Arrival → List ℕ
arrival_octets a = be_octets number_width a.number ++ be_octets time_width a.time

module _ {ℓ} {A : Type ℓ} where
  -- the octets of items, one item after the other
  unfoldable pub item_octets : (octets : A → List ℕ) → List A → List ℕ
  item_octets octets [] = []
  item_octets octets (x ∷ xs) = octets x ++ item_octets octets xs

  -- `n` items of `width` octets each, one after the other
  unfoldable pub items_in : (width : ℕ) (item : List ℕ → A) (n : ℕ) (os : List ℕ) → List A
  items_in width item zero os = []
  items_in width item (suc n) os = item (take width os) ∷ items_in width item n (drop width os)

-- the file of a sample: label, sent packets, arrivals
unfoldable pub file_of : Sample → List ℕ
file_of s =
    section (length s.label) s.label
    ++ (section (length s.sizes) (item_octets size_octets s.sizes)
    ++ section (length s.arrivals) (item_octets arrival_octets s.arrivals))
