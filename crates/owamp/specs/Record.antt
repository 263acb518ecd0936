-- The packet record of RFC 4656, section 3.9: 25 octets, all numbers big-endian. Only this file states the offsets of its fields.
-- Assumes nothing.
use Rattle.std.specs.Prelude.{ℕ, ◌+◌, ◌/◌, Bool, not, List, eqb, length}
use Rattle.octets.specs.BigEndian.{be_value, be_octets}
use Rattle.octets.specs.Memory.{part}
use Rattle.merging.specs.Order.{passing}
use Rattle.rfc4737.specs.declared.Arrival.{Arrival}
use Rattle.sample.specs.Format.{items_in}

-- ---- the layout

-- the length of a record in octets
abbrev pub record_width : ℕ
record_width = 25

-- a field of a record: its offset, and its length in octets
pub record Field : Type 0 where
  pub at : ℕ
  pub width : ℕ

abbrev pub sequence_number : Field
sequence_number = record { at = 0; width = 4 }

abbrev pub send_error : Field
send_error = record { at = 4; width = 2 }

abbrev pub receive_error : Field
receive_error = record { at = 6; width = 2 }

abbrev pub send_time : Field
send_time = record { at = 8; width = 8 }

abbrev pub receive_time : Field
receive_time = record { at = 16; width = 8 }

-- the two halves of the receive time: seconds, and a fraction in units of 2^-32 seconds
abbrev pub receive_seconds : Field
receive_seconds = record { at = 16; width = 4 }

abbrev pub receive_fraction : Field
receive_fraction = record { at = 20; width = 4 }

abbrev pub ttl : Field
ttl = record { at = 24; width = 1 }

-- the number that a field of a record holds
abbrev pub field_in : Field → List ℕ → ℕ
field_in f os = be_value (part f.at f.width os)

-- the octets of a field that holds a number
abbrev pub field_octets : Field → ℕ → List ℕ
field_octets f v = be_octets f.width v

-- ---- the records of a file

-- the arrival of a record, with the time as recorded; sequence number 0 is packet 1
unfoldable pub record_in : List ℕ → Arrival
record_in os = record { number = field_in sequence_number os + 1; time = field_in receive_time os }

-- the number of whole records
abbrev pub record_count : List ℕ → ℕ
record_count os = length os / record_width

-- the records in file order
abbrev pub records_in : List ℕ → List Arrival
records_in os = items_in record_width record_in (record_count os) os

-- whether a record is an arrival; a receive time of 0 means a lost packet
abbrev pub is_arrival : Arrival → Bool
is_arrival a = not (eqb a.time 0)

-- the arrivals in file order, with their times as recorded
unfoldable pub records_arrivals : List ℕ → List Arrival
records_arrivals os = passing is_arrival (records_in os)
