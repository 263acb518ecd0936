-- Moving the clock by c: the answers of a sample, and what is refused of it, stay as they are. Of two times it only matters which is the
-- lesser and how far apart they are, and neither changes if both are moved (`less-moved`, `between-moved`). The reference for the first
-- arrival is 0, which does not move; against it no time is too early, and the next reference is the arrival's own time (`early-first`,
-- `reference-first`). From there on the reference moves with the times (`greatest-after`, `judge-after`), and so nothing else is refused
-- (`judge-moved`). Numbers and positions do not change: first arrivals and jumps of moved arrivals are the moved ones (`firsts-moved`,
-- `jumps-moved`), what is folded over numbers is the same (`numbers-moved`), and the discontinuity is the moved one, with the same extent,
-- by positions, and the same late time, by two moved times. Together these give each answer (`first-moved`, `answer-moved`). Here l are
-- the arrivals, fs the first arrivals, a the next arrival, d a discontinuity, and b the outcome of a test. Assumes nothing.
use Prim.Native.Nat.{ℕ, ◌+◌, ◌-◌}
use mathlib.Core.Path.{◌≡◌, refl, sym, ap, ◌∙◌}
use mathlib.Core.Bool.{Bool, true, false, cond, ◌||◌}
use mathlib.Core.List.{List, [], ◌∷◌, ◌++◌, map, map-append, foldl, flatten}
use mathlib.Core.Option
use mathlib.Core.Option.{Option, none, some}
use native.Mathlib.Omega.{arith}
use lib.Dec.{ltb, eqb}
use lib.ListN.{length, length-map}
use borrow.Author.Tests.{ltb-true, ltb-false, lt-ltb, le-ltb}
use Rattle.rfc4737.specs.declared.Arrival.{Arrival}
use Rattle.rfc4737.specs.Arrivals.{has, with_arrival, firsts, record_from, first_record, each}
use Rattle.rfc4737.specs.Times.{back_most, too_early, next_reference, greatest_time, elapsed}
use Rattle.rfc4737.specs.Order.{FirstArrival, next_after, next_exp, is_in_order, jump_size, is_jump, place_after, placed, jump_after, jumps}
use Rattle.rfc4737.specs.Extent.{first_above, discontinuity, extent_from, late_from, byte_offset, largest_n}
use Rattle.rfc4737.specs.Answer.{in_order_answer, reordered_answer, first_answer, answer_to, answers}
use Rattle.rfc4737.specs.Judge.{judge_one, judge}
use Rattle.rfc4737.specs.Moved.{moved_one, moved, MovedTwice}
use Rattle.rfc4737.proofs.Lists.{fold-map, each_map, map_each, flatten-map}

-- ---- two times

-- which of two is the lesser
less-moved : (c s t : ℕ) → ltb (s + c) (t + c) ≡ ltb s t
less-moved c s t = go (ltb s t) refl
  where
    go : (b : Bool) → ltb s t ≡ b → ltb (s + c) (t + c) ≡ ltb s t
    go true e = let h = ltb-true s t e in lt-ltb (s + c) (t + c) (omega arith) ∙ sym e
    go false e = let h = ltb-false s t e in le-ltb (s + c) (t + c) (omega arith) ∙ sym e

-- how much is between them
between-moved : (c s t : ℕ) → s + c - (t + c) ≡ s - t
between-moved c s t = omega arith

-- the time from one arrival to another
elapsed-moved : (c past own : ℕ) → elapsed (past + c) (own + c) ≡ elapsed past own
unfolding elapsed
elapsed-moved c past own = rw (less-moved c own past, between-moved c past own, between-moved c own past)

-- whether a time is too far below the reference
early-moved : (c reference time : ℕ) → too_early (reference + c) (time + c) ≡ too_early reference time
unfolding too_early
early-moved c reference time = rw (between-moved c reference time)

reference-moved : (c reference time : ℕ) → next_reference (reference + c) (time + c) ≡ next_reference reference time + c
unfolding next_reference
reference-moved c reference time = rw (less-moved c reference time) (go (ltb reference time))
  where
    go : (b : Bool) → cond b (time + c) (reference + c) ≡ cond b time reference + c
    go true = refl
    go false = refl

-- ---- the first arrival: there is no earlier time, and the reference is 0

-- no time is too early
early-first : (time : ℕ) → too_early 0 time ≡ false
unfolding too_early
early-first time = le-ltb back_most (0 - time) (omega arith)

-- the next reference is its time
reference-first : (time : ℕ) → next_reference 0 time ≡ time
unfolding next_reference
reference-first time = go (ltb 0 time) refl
  where
    go : (b : Bool) → ltb 0 time ≡ b → cond b time 0 ≡ time
    go true e = refl
    go false e = let h = ltb-false 0 time e in omega arith

module _ (c : ℕ) where
  -- ---- the greatest time

  -- of a reference and the times after it
  abbrev greatest_from : ℕ → List Arrival → ℕ
  greatest_from reference l = foldl (λ (t : ℕ) (a : Arrival). next_reference t a.time) reference l

  -- moved with the reference
  greatest-after : (reference : ℕ) (l : List Arrival) → greatest_from (reference + c) (moved c l) ≡ greatest_from reference l + c
  greatest-after =
      fold-map (moved_one c) (λ (t : ℕ). t + c) (λ (t : ℕ) (a : Arrival). next_reference t a.time)
      (λ (t : ℕ) (a : Arrival). reference-moved c t a.time)

  -- whether a time is too far below the greatest earlier one
  pub early-greatest : (l : List Arrival) (time : ℕ) → too_early (greatest_time (moved c l)) (time + c) ≡ too_early (greatest_time l) time
  unfolding greatest_time
  early-greatest [] time = early-first (time + c) ∙ sym (early-first time)
  early-greatest (a ∷ l) time =
      ap (λ (r : ℕ). too_early (greatest_from r (moved c l)) (time + c)) (reference-first (a.time + c))
      ∙ ap (λ (r : ℕ). too_early r (time + c)) (greatest-after a.time l)
      ∙ early-moved c (greatest_from a.time l) time
      ∙ ap (λ (r : ℕ). too_early (greatest_from r l) time) (sym (reference-first a.time))

  -- ---- what is refused

  -- of arrivals after a reference, moved with the times
  judge-after : (k reference : ℕ) (l : List Arrival) → judge k (reference + c) (moved c l) ≡ judge k reference l
  unfolding judge judge_one
  judge-after k reference [] = refl
  judge-after k reference (a ∷ l) =
      rw (early-moved c reference a.time, reference-moved c reference a.time, judge-after k (next_reference reference a.time) l)

  -- of a sample's arrivals
  pub judge-moved : (k : ℕ) (l : List Arrival) → judge k 0 (moved c l) ≡ judge k 0 l
  unfolding judge judge_one
  judge-moved k [] = refl
  judge-moved k (a ∷ l) =
      rw (
        early-first (a.time + c),
        early-first a.time,
        reference-first (a.time + c),
        reference-first a.time,
        judge-after k a.time l,
      )

  -- ---- first arrivals

  -- whether a packet is among the arrivals
  has-moved : (s : ℕ) (l : List Arrival) → has s (moved c l) ≡ has s l
  unfolding has
  has-moved s [] = refl
  has-moved s (a ∷ l) = ap (λ (b : Bool). eqb a.number s || b) (has-moved s l)

  -- the record of the first arrival of a packet
  record-moved : (r s : ℕ) (l : List Arrival) → record_from r s (moved c l) ≡ record_from r s l
  unfolding record_from
  record-moved r s [] = refl
  record-moved r s (a ∷ l) = ap (λ (n : ℕ). cond (eqb a.number s) r n) (record-moved (r + 1) s l)

  -- the first arrivals under one arrival more
  with-moved : (fs : List Arrival) (a : Arrival) → with_arrival (moved c fs) (moved_one c a) ≡ moved c (with_arrival fs a)
  unfolding with_arrival
  with-moved fs a = rw (has-moved a.number fs) (go (has a.number fs))
    where
      go : (b : Bool) → cond b (moved c fs) (moved c fs ++ (moved_one c a ∷ [])) ≡ moved c (cond b fs (fs ++ (a ∷ [])))
      go true = refl
      go false = sym (map-append (moved_one c) fs (a ∷ []))

  pub firsts-moved : (l : List Arrival) → firsts (moved c l) ≡ moved c (firsts l)
  unfolding firsts
  firsts-moved l = fold-map (moved_one c) (moved c) with_arrival with-moved [] l

  -- what is folded over the numbers of first arrivals
  numbers-moved : (f : ℕ → ℕ → ℕ) (n : ℕ) (fs : List Arrival)
      → foldl (λ (n : ℕ) (a : Arrival). f n a.number) n (moved c fs) ≡ foldl (λ (n : ℕ) (a : Arrival). f n a.number) n fs
  numbers-moved f =
      fold-map (moved_one c) (λ (n : ℕ). n) (λ (n : ℕ) (a : Arrival). f n a.number) (λ (n : ℕ) (a : Arrival). refl)

  next-moved : (fs : List Arrival) → next_exp (moved c fs) ≡ next_exp fs
  unfolding next_exp
  next-moved fs = numbers-moved next_after 1 fs

  offset-moved : (size : ℕ → ℕ) (fs : List Arrival) (s : ℕ) → byte_offset size (moved c fs) s ≡ byte_offset size fs s
  unfolding byte_offset
  offset-moved size fs s = numbers-moved (λ (n t : ℕ). n + cond (ltb s t) (size t) 0) 0 fs

  largest-moved : (fs : List Arrival) (s : ℕ) → largest_n (moved c fs) s ≡ largest_n fs s
  unfolding largest_n
  largest-moved fs s = numbers-moved (λ (n t : ℕ). cond (ltb s t) (n + 1) 0) 0 fs

  -- ---- first arrivals with their positions

  -- one with c added to its time
  abbrev pub moved_place : FirstArrival → FirstArrival
  moved_place p = record { position = p.position; number = p.number; time = p.time + c }

  place-moved : (fs : List Arrival) (a : Arrival) → place_after (moved c fs) (moved_one c a) ≡ moved_place (place_after fs a)
  place-moved fs a = rw (length-map fs (moved_one c))

  -- all of them
  placed-moved : (fs : List Arrival) → placed (moved c fs) ≡ map moved_place (placed fs)
  unfolding placed
  placed-moved fs =
      each_map (moved_one c) place_after (λ (fs : List Arrival) (a : Arrival). moved_place (place_after fs a)) place-moved fs
      ∙ sym (map_each moved_place place_after fs)

  -- the jumps among them
  jump-moved : (fs : List Arrival) (a : Arrival) → jump_after (moved c fs) (moved_one c a) ≡ map moved_place (jump_after fs a)
  unfolding jump_after is_jump is_in_order jump_size
  jump-moved fs a = rw (next-moved fs, place-moved fs a) (go (is_jump fs a.number))
    where
      go : (b : Bool) → cond b (moved_place (place_after fs a) ∷ []) [] ≡ map moved_place (cond b (place_after fs a ∷ []) [])
      go true = refl
      go false = refl

  pub jumps-moved : (fs : List Arrival) → jumps (moved c fs) ≡ map moved_place (jumps fs)
  unfolding jumps
  jumps-moved fs =
      ap flatten
      (each_map (moved_one c) jump_after (λ (fs : List Arrival) (a : Arrival). map moved_place (jump_after fs a)) jump-moved fs
      ∙ sym (map_each (map moved_place) jump_after fs))
      ∙ flatten-map moved_place (each jump_after fs)

  -- ---- what is measured from another arrival

  -- the earliest with a greater number
  above-moved : (s : ℕ) (ps : List FirstArrival) → first_above s (map moved_place ps) ≡ Option.map moved_place (first_above s ps)
  unfolding first_above
  above-moved s [] = refl
  above-moved s (p ∷ ps) = rw (above-moved s ps) (go (ltb s p.number))
    where
      go : (b : Bool)
          → cond b (some (moved_place p)) (Option.map moved_place (first_above s ps))
          ≡ Option.map moved_place (cond b (some p) (first_above s ps))
      go true = refl
      go false = refl

  pub discontinuity-moved : (fs : List Arrival) (s : ℕ) → discontinuity (moved c fs) s ≡ Option.map moved_place (discontinuity fs s)
  unfolding discontinuity
  discontinuity-moved fs s = ap (first_above s) (placed-moved fs) ∙ above-moved s (placed fs)

  pub extent-moved : (i : ℕ) (d : Option FirstArrival) → extent_from i (Option.map moved_place d) ≡ extent_from i d
  unfolding extent_from
  extent-moved i none = refl
  extent-moved i (some j) = refl

  pub late-moved : (t : ℕ) (d : Option FirstArrival) → late_from (t + c) (Option.map moved_place d) ≡ late_from t d
  unfolding late_from
  late-moved t none = refl
  late-moved t (some j) = elapsed-moved c j.time t

  -- ---- the answers

  module _ (size : ℕ → ℕ) where
    -- of a first arrival
    first-moved : (fs : List Arrival) (a : Arrival) → first_answer size (moved c fs) (moved_one c a) ≡ first_answer size fs a
    unfolding first_answer in_order_answer reordered_answer is_in_order jump_size
    first-moved fs a =
        let d = discontinuity fs a.number in
        rw (
          next-moved fs,
          length-map fs (moved_one c),
          discontinuity-moved fs a.number,
          extent-moved (length fs + 1) d,
          late-moved a.time d,
          offset-moved size fs a.number,
          largest-moved fs a.number,
        )

    -- of any arrival
    pub answer-moved : (earlier : List Arrival) (a : Arrival) → answer_to size (moved c earlier) (moved_one c a) ≡ answer_to size earlier a
    unfolding answer_to first_record
    answer-moved earlier a =
        rw (has-moved a.number earlier, record-moved 1 a.number earlier, firsts-moved earlier, first-moved (firsts earlier) a)

    -- of every record of a sample
    pub answers-moved : (l : List Arrival) → answers size (moved c l) ≡ answers size l
    unfolding answers
    answers-moved l = each_map (moved_one c) (answer_to size) (answer_to size) answer-moved l

-- ---- two movements

pub moved_twice : MovedTwice
moved_twice b c [] = refl
moved_twice b c (a ∷ l) =
    let e : a.time + b + c ≡ a.time + (b + c) = omega arith in
    rw (e, moved_twice b c l)
