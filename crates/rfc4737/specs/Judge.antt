-- The refusals of K and of arrivals, wherever these come from: a file, a text log or lists. Assumes nothing.
use Rattle.std.specs.Prelude.{ℕ, not, List, [], ◌∷◌, map, eqb, length}
use Rattle.rfc4737.specs.declared.Arrival.{Arrival}
use Rattle.rfc4737.specs.Times.{too_early, next_reference}
use Rattle.rfc4737.specs.Refusals.{outside, refusal_if, first_refusal, sent_outside, many_arrivals, number_outside, time_back, lists_differ}

-- ---- limits

-- the greatest number of sent packets
abbrev pub sent_most : ℕ
sent_most = 4096

-- the greatest number of arrivals
abbrev pub arrivals_most : ℕ
arrivals_most = 4096

-- ---- arrivals as two lists

-- the numbers of arrivals
abbrev pub numbers_of : List Arrival → List ℕ
numbers_of l = map (λ (a : Arrival). a.number) l

-- the times of arrivals
abbrev pub times_of : List Arrival → List ℕ
times_of l = map (λ (a : Arrival). a.time) l

-- the arrivals of a list of numbers and a list of times
unfoldable pub arrivals_from : List ℕ → List ℕ → List Arrival
arrivals_from [] times = []
arrivals_from (n ∷ ns) [] = []
arrivals_from (n ∷ ns) (t ∷ ts) = record { number = n; time = t } ∷ arrivals_from ns ts

-- ---- what is refused

-- 4: K is 0 or over 4,096
abbrev pub judge_sent : ℕ → ℕ
judge_sent k = refusal_if (outside 1 sent_most k) sent_outside

-- 5: over 4,096 arrivals
abbrev pub judge_arrivals : ℕ → ℕ
judge_arrivals n = refusal_if (outside 0 arrivals_most n) many_arrivals

-- the refusal of one arrival, 0 for none, by K and the reference for its time: 6 comes before 7
unfoldable pub judge_one : ℕ → ℕ → Arrival → ℕ
judge_one k reference a =
    first_refusal (refusal_if (outside 1 k a.number) number_outside ∷ refusal_if (too_early reference a.time) time_back ∷ [])

-- the first refusal of arrivals in turn, 0 for none
unfoldable pub judge : ℕ → ℕ → List Arrival → ℕ
judge k reference [] = 0
judge k reference (a ∷ l) = first_refusal (judge_one k reference a ∷ judge k (next_reference reference a.time) l ∷ [])

-- the first refusal that applies to K and the lists, 0 if none does: 4; 5, by the list of numbers; 12; then the arrivals in turn
unfoldable pub refusal_of_lists : ℕ → List ℕ → List ℕ → ℕ
refusal_of_lists k numbers times =
    first_refusal
    (judge_sent k
    ∷ judge_arrivals (length numbers)
    ∷ refusal_if (not (eqb (length numbers) (length times))) lists_differ
    ∷ judge k 0 (arrivals_from numbers times)
    ∷ [])
