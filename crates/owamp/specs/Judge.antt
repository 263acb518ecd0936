-- What is refused: of records and K, and of times to be written. Assumes nothing.
use Rattle.std.specs.Prelude.{ℕ, ◌-◌, ◌^◌, ◌%◌, not, List, [], ◌∷◌, map, ltb, eqb, length}
use Rattle.rfc4737.specs.declared.Arrival.{Arrival}
use Rattle.rfc4737.specs.Judge.{judge_sent, judge_arrivals}
use Rattle.rfc4737.specs.Refusals.{outside, refusal_if, first_refusal, number_outside, record_cut, seconds_over}
use Rattle.owamp.specs.Record.{record_width, records_arrivals}
use Rattle.owamp.specs.Clock.{written_seconds}

-- 15 for a length that is no multiple of 25
abbrev pub judge_length : ℕ → ℕ
judge_length n = refusal_if (not (eqb (n % record_width) 0)) record_cut

-- 6 for an arrival whose number is outside 1 to K
unfoldable pub judge_number : ℕ → Arrival → ℕ
judge_number k a = refusal_if (outside 1 k a.number) number_outside

-- 6 if any arrival is refused with 6
unfoldable pub judge_numbers : ℕ → List Arrival → ℕ
judge_numbers k l = first_refusal (map (judge_number k) l)

-- the first refusal that applies to K and records: 15, 4, 5 for too many arrivals, 6; 0 if none does
unfoldable pub records_refusal : ℕ → List ℕ → ℕ
records_refusal k os =
    first_refusal
    (judge_length (length os)
    ∷ judge_sent k
    ∷ judge_arrivals (length (records_arrivals os))
    ∷ judge_numbers k (records_arrivals os)
    ∷ [])

-- the greatest number of 32 bits
abbrev pub seconds_most : ℕ
seconds_most = 2 ^ 32 - 1

-- 18 for a time whose written seconds do not fit in 32 bits
unfoldable pub judge_time : ℕ → ℕ
judge_time t = refusal_if (ltb seconds_most (written_seconds t)) seconds_over

-- 18 if any arrival is refused with 18
unfoldable pub judge_seconds : List Arrival → ℕ
judge_seconds l = first_refusal (map (λ (a : Arrival). judge_time a.time) l)
