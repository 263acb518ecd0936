-- Tables of receive times, records and their octets, which the contracts of the calls cite. Assumes nothing.
use Rattle.std.specs.Prelude.{ℕ, List, [], ◌∷◌, ◌++◌, map, ◌≡◌, replicate}
use Rattle.octets.specs.BigEndian.{be_octets}
use Rattle.rfc4737.specs.declared.Arrival.{Arrival}
use Rattle.owamp.specs.Clock.{microseconds, taken_off}
use Rattle.owamp.specs.Judge.{records_refusal}
use Rattle.owamp.specs.Calls.{imported_arrivals, record_octets}

-- ---- what is read

-- receive times, each with its whole microseconds and what rounding takes off: the least, half a second, a second and a third, the last
-- fraction before two seconds, and the greatest
abbrev pub time_table : List (ℕ × (ℕ × ℕ))
time_table =
    (1, (0, 1000000))
    ∷ (2147483648, (500000, 0))
    ∷ (5726623061, (1333333, 1431322432))
    ∷ (8589934591, (1999999, 4293967296))
    ∷ (18446744073709551615, (4294967295999999, 4293967296))
    ∷ []

-- the octets of a record with this sequence number and receive time; every octet of the other fields is 9
abbrev pub received_record : (sequence time : ℕ) → List ℕ
received_record sequence time = be_octets 4 sequence ++ (replicate 12 9 ++ (be_octets 8 time ++ (9 ∷ [])))

-- K and octets, each with the first refusal that applies
abbrev pub refusal_table : List ((ℕ × List ℕ) × ℕ)
refusal_table =
    -- no record; one record; one octet too few and too many
    ((1, []), 0) ∷ ((1, received_record 0 1), 0) ∷ ((1, replicate 24 9), 15) ∷ ((1, replicate 26 9), 15)
    -- 15 before 4, and 4 before 6
    ∷ ((0, 9 ∷ []), 15) ∷ ((0, received_record 0 1), 4) ∷ ((4097, received_record 9 1), 4)
    -- a lost record is not judged; a record with 0 seconds and a fraction is not lost
    ∷ ((1, received_record 9 0), 0) ∷ ((1, received_record 9 1), 6) ∷ ((1, received_record 4294967295 0), 0)
    -- sequence number 1 is packet 2, and the greatest is packet 2 to the 32
    ∷ ((1, received_record 1 1), 6) ∷ ((2, received_record 1 1), 0) ∷ ((4096, received_record 4294967295 1), 6)
    ∷ []

-- octets, each with the arrivals that are imported
abbrev pub import_table : List (List ℕ × List Arrival)
import_table =
    -- none arrived
    (received_record 0 0 ++ received_record 1 0, [])
    -- in the order of the receive times, with a lost record between; one and a half seconds, and a quarter
    ∷ (
      received_record 1 6442450944 ++ (received_record 7 0 ++ received_record 0 1073741824),
      record { number = 1; time = 0 } ∷ record { number = 2; time = 1250000 } ∷ [],
    )
    -- equal times in file order; times that differ by less than a microsecond in the order of the times
    ∷ (
      received_record 2 5 ++ (received_record 1 5 ++ received_record 0 4),
      record { number = 1; time = 0 } ∷ record { number = 3; time = 0 } ∷ record { number = 2; time = 0 } ∷ [],
    )
    -- the smallest time is subtracted after rounding: 4,294 and 4,295 fractions are 0 and 1 microseconds
    ∷ (received_record 0 4294 ++ received_record 1 4295, record { number = 1; time = 0 } ∷ record { number = 2; time = 1 } ∷ [])
    ∷ []

-- the definitions give what the tables say: the microseconds of each receive time and what rounding takes off
pub record RecordsReadAsGiven : Type 0 where
  pub times : map (λ (c : ℕ × (ℕ × ℕ)). (microseconds c.0, taken_off c.0)) time_table ≡ map (λ (c : ℕ × (ℕ × ℕ)). c.1) time_table
  -- the refusal of each K with its records
  pub refusals : map (λ (c : (ℕ × List ℕ) × ℕ). records_refusal c.0.0 c.0.1) refusal_table
      ≡ map (λ (c : (ℕ × List ℕ) × ℕ). c.1) refusal_table
  -- the arrivals imported from the octets
  pub arrivals : map (λ (c : List ℕ × List Arrival). imported_arrivals c.0) import_table
      ≡ map (λ (c : List ℕ × List Arrival). c.1) import_table

-- ---- what is written

-- packet 3 at 1.5 seconds: sequence number 2, and 2 seconds and half of one
pub record RecordsWrittenAsGiven : Type 0 where
  pub written : record_octets (record { number = 3; time = 1500000 })
      ≡ (0 ∷ 0 ∷ 0 ∷ 2 ∷ 0 ∷ 1 ∷ 0 ∷ 1 ∷ 0 ∷ 0 ∷ 0 ∷ 0 ∷ 0 ∷ 0 ∷ 0 ∷ 0 ∷ 0 ∷ 0 ∷ 0 ∷ 2 ∷ 128 ∷ 0 ∷ 0 ∷ 0 ∷ 255 ∷ [])
