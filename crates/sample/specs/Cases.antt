-- The order of the refusals, shown by a table of small files. The contract of `check` carries it. Assumes nothing.
use Rattle.std.specs.Prelude.{ℕ, List, [], ◌∷◌, ◌++◌, map, ◌≡◌}
use Rattle.sample.specs.Format.{file_of}
use Rattle.sample.specs.Decode.{decode, decoded_refusal}
use Rattle.sample.specs.Calls.{sample_from}

-- a file of two sent packets, and of arrivals by their numbers and times
abbrev pub two_sent : List ℕ → List ℕ → List ℕ
two_sent numbers times = file_of (sample_from [] (100 ∷ 100 ∷ []) numbers times)

-- files, each with its refusal
abbrev pub refusal_cases : List (List ℕ × ℕ)
refusal_cases =
    -- no count, half of one, a label that is not there
    ([], 1) ∷ (0 ∷ [], 1) ∷ (0 ∷ 1 ∷ [], 1)
    -- a label of 65 octets, of which none is there; no packets, of 4,097 of which none is there
    ∷ (0 ∷ 65 ∷ [], 3) ∷ (0 ∷ 0 ∷ 0 ∷ 0 ∷ [], 4) ∷ (0 ∷ 0 ∷ 16 ∷ 1 ∷ [], 4)
    -- a label of one octet, the least and the greatest that can be shown, and no packets; one beside them, and no packets or no K
    ∷ (0 ∷ 1 ∷ 0x20 ∷ 0 ∷ 0 ∷ [], 4) ∷ (0 ∷ 1 ∷ 0x7E ∷ 0 ∷ 0 ∷ [], 4) ∷ (0 ∷ 1 ∷ 0x1F ∷ 0 ∷ 0 ∷ [], 13) ∷ (0 ∷ 1 ∷ 0x7F ∷ [], 13)
    -- an octet that cannot be shown: the last of two, the first of two and of 65 of which no other is there
    ∷ (0 ∷ 2 ∷ 65 ∷ 0x1F ∷ [], 13) ∷ (0 ∷ 2 ∷ 0x1F ∷ [], 1) ∷ (0 ∷ 65 ∷ 0x1F ∷ [], 3)
    -- no packets, and octets that follow
    ∷ (0 ∷ 0 ∷ 0 ∷ 0 ∷ 0 ∷ 0 ∷ 9 ∷ [], 4)
    -- 4,097 arrivals, of which none is there
    ∷ (0 ∷ 0 ∷ 0 ∷ 1 ∷ 0 ∷ 100 ∷ 16 ∷ 1 ∷ [], 5)
    -- no arrivals; and an octet that follows
    ∷ (0 ∷ 0 ∷ 0 ∷ 1 ∷ 0 ∷ 100 ∷ 0 ∷ 0 ∷ [], 0) ∷ (0 ∷ 0 ∷ 0 ∷ 1 ∷ 0 ∷ 100 ∷ 0 ∷ 0 ∷ 9 ∷ [], 2)
    -- arrivals: fit with equal times, a number that is 0 or over K, a time that goes back by 1,000 and by 1,001
    ∷ (two_sent (1 ∷ 2 ∷ []) (10 ∷ 10 ∷ []), 0) ∷ (two_sent (1 ∷ 0 ∷ []) (10 ∷ 10 ∷ []), 6) ∷ (two_sent (1 ∷ 3 ∷ []) (10 ∷ 10 ∷ []), 6)
    ∷ (two_sent (1 ∷ 2 ∷ []) (2000 ∷ 1000 ∷ []), 0) ∷ (two_sent (1 ∷ 2 ∷ []) (2000 ∷ 999 ∷ []), 7)
    -- a time is compared with the greatest earlier one, not with the one before it; that may be the time of a copy
    ∷ (two_sent (1 ∷ 1 ∷ 1 ∷ []) (2000 ∷ 1500 ∷ 1000 ∷ []), 0) ∷ (two_sent (1 ∷ 1 ∷ 1 ∷ []) (2000 ∷ 1500 ∷ 999 ∷ []), 7)
    ∷ (two_sent (1 ∷ 1 ∷ 1 ∷ []) (1500 ∷ 2000 ∷ 999 ∷ []), 7)
    -- 6 before 7 in one arrival; 2 before both
    ∷ (two_sent (1 ∷ 3 ∷ []) (2000 ∷ 999 ∷ []), 6) ∷ (two_sent (1 ∷ 3 ∷ []) (2000 ∷ 999 ∷ []) ++ (0 ∷ []), 2)
    ∷ []

-- each file is refused as the table says
pub record RefusalsInOrder : Type 0 where
  pub due : map (λ (c : List ℕ × ℕ). decoded_refusal (decode c.0)) refusal_cases ≡ map (λ (c : List ℕ × ℕ). c.1) refusal_cases
