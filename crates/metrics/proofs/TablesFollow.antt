-- How the tables follow the arrivals. First, entries that are filled with one value, one by one. Then the next arrival, by its kind. A
-- copy leaves all tables (`kept-copy`). A new packet's number is written after those before it, and its record at its packet; `skipped`
-- matters only for packets below NextExp that have not arrived, and their discontinuities stay. So if the new packet is reordered, its
-- own entry is free (`kept-reordered`). If it is in order, no number before it is above those from NextExp on, so it is the discontinuity
-- of the packets that it skips (`discontinuity-new`, `kept-in-order`). Last, the arrivals of a file one by one, and that a packet has a
-- record exactly if it has arrived (`arrived-recorded`, `new-recorded`).
-- Here l are the arrivals, a the next one, fs first arrivals, s the number of any packet, p an index among first arrivals, d a decoded
-- file and i the number of records before. Assumes nothing.
use mathlib.Core.Path.{◌≡◌, refl, sym, ap, ◌∙◌}
use mathlib.Core.Bool.{Bool, true, false, cond, not, true≢false}
use mathlib.Core.List.{List, [], ◌∷◌, ◌++◌}
use mathlib.Core.Option.{none, some}
use Prim.Native.Nat.{ℕ, ◌+◌, ◌-◌, ◌≤◌, ◌<◌}
use native.Mathlib.Omega.{arith}
use lib.ListN.{length, get_or, set, length-set, length-append, get_or-append}
use lib.Seq.{length-take-le, get_or-set_same, get_or-set_other, get_or-append_seam}
use lib.Dec.{eqb, ltb}
use borrow.Author.Tests.{eq-eqb, ne_eqb, eqb-true, eqb-false, ltb-true, ltb-false, lt-ltb, lt-leb, le-leb, not-true, not-false}
use Rattle.rfc4737.specs.declared.Arrival.{Arrival}
use Rattle.rfc4737.specs.Arrivals.{has, firsts, first_record}
use Rattle.rfc4737.specs.Order.{FirstArrival, placed, place_after, jumps, next_exp, next_after, is_in_order}
use Rattle.rfc4737.specs.Extent.{discontinuity, first_above}
use Rattle.rfc4737.proofs.Lists.{all-weaken}
use Rattle.rfc4737.proofs.Arrivals.{has-firsts, firsts-duplicate, firsts-first, record-more, length-firsts, take_more}
use Rattle.rfc4737.proofs.Folds.{next_more}
use Rattle.rfc4737.proofs.Jumps.{has-more-false, placed-more, first_above-append, first_above-none, search-agrees, Within, jumps-within, reordered-discontinuity}
use Rattle.rfc4737.specs.Judge.{sent_most, arrivals_most}
use Rattle.sample.specs.declared.Layout.{Layout}
use Rattle.sample.specs.Decode.{Decoded}
use Rattle.metrics.specs.Sample.{sample_arrivals}
use Rattle.sample.specs.Places.{no_arrival}
use Rattle.metrics.specs.Records.{arrival_at, before, FileLayout, HasRecord}
use Rattle.metrics.specs.Private.Tables.{Filled, NumberTable, RecordTable, EngineTables}
use Rattle.metrics.specs.declared.engine.seen.State.{State}
use Rattle.metrics.proofs.Records.{record-none, record-some}

-- ---- filling

-- before the first entry
pub filled_none : (from value : ℕ) (old : List ℕ) → Filled from from value old old
filled_none from value old = record { same = refl; inside = λ k h g. absurd (omega arith); below = λ k h. refl; past = λ k h. refl }

-- one more entry
pub filled_more : (from s value : ℕ) (old new : List ℕ) → from ≤ s → s < length new → Filled from s value old new
    → Filled from (s + 1) value old (set new s value)
filled_more from s value old new h g f =
    record {
      same = length-set new s value ∙ f.same;
      inside = λ k a b. at k a b (eqb k s) refl;
      below = λ k a. get_or-set_other new s k value 0 (λ e. omega arith) ∙ f.below k a;
      past = λ k a. get_or-set_other new s k value 0 (λ e. omega arith) ∙ f.past k (omega arith);
    }
  where
    at : (k : ℕ) → from ≤ k → k < s + 1 → (t : Bool) → eqb k s ≡ t → get_or (set new s value) k 0 ≡ value
    at k a b true e = rw (eqb-true k s e) (get_or-set_same new s value 0 g)
    at k a b false e =
        let other : k ≡ s → ⊥ = eqb-false k s e in
        get_or-set_other new s k value 0 other ∙ f.inside k a (omega (arith, other))

-- to the last entry, or none if there is none
pub filled-to : (from to s value : ℕ) (old new : List ℕ) → to ≤ s → s ≤ from + (to - from) → Filled from s value old new
    → Filled from to value old new
filled-to from to s value old new h g f =
    record { same = f.same; inside = λ k a b. f.inside k a (omega arith); below = f.below; past = λ k a. past k a (ltb k from) refl }
  where
    past : (k : ℕ) → to ≤ k → (t : Bool) → ltb k from ≡ t → get_or new k 0 ≡ get_or old k 0
    past k a true e = f.below k (ltb-true k from e)
    past k a false e = f.past k (omega (arith, ltb-false k from e))

-- ---- the next arrival

-- the numbers after the next first arrival, put after those before it
pub numbered_more : (fs : List Arrival) (a : Arrival) (numbers : List ℕ) (count : ℕ) → length fs < length numbers
    → NumberTable fs numbers count
    → NumberTable (fs ++ (a ∷ [])) (set numbers count a.number) (count + 1)
numbered_more fs a numbers count room h =
    record { all = rw (length-append fs (a ∷ [])) (ap (λ (n : ℕ). n + 1) h.all); at = λ p g. go p g (eqb p (length fs)) refl }
  where
    here : get_or (set numbers count a.number) (length fs) 0 ≡ a.number
    here = rw h.all (get_or-set_same numbers (length fs) a.number 0 room)

    go : (p : ℕ) → p < length (fs ++ (a ∷ [])) → (t : Bool) → eqb p (length fs) ≡ t
        → get_or (set numbers count a.number) p 0 ≡ (get_or (fs ++ (a ∷ [])) p no_arrival).number
    go p g true e = rw (eqb-true p (length fs) e) (here ∙ sym (ap (λ (b : Arrival). b.number) (get_or-append_seam fs a [] no_arrival)))
    go p g false e =
        let other : p ≡ length fs → ⊥ = eqb-false p (length fs) e in
        let below : p < length fs = omega (arith, other, length-append fs (a ∷ [])) in
        get_or-set_other numbers count p a.number 0 (λ q. other (q ∙ h.all))
        ∙ h.at p below
        ∙ sym (ap (λ (b : Arrival). b.number) (get_or-append fs (a ∷ []) no_arrival p below))

-- the record of any packet under a copy of one that has arrived
pub recorded_copy : (l : List Arrival) (a : Arrival) → has a.number l ≡ true → (s : ℕ) → first_record s (l ++ (a ∷ [])) ≡ first_record s l
recorded_copy l a arrived s = record-more s l a ∙ go (has s l) refl
  where
    go : (t : Bool) → has s l ≡ t → cond t (first_record s l) (cond (eqb a.number s) (length l + 1) 0) ≡ first_record s l
    go true e = refl
    go false e =
        let other : a.number ≡ s → ⊥ = λ q. true≢false (sym arrived ∙ (rw q e)) in
        rw (ne_eqb a.number s other) (sym (record-none s l e))

-- the records after the next first arrival, whose own is put at its packet
recorded_more : (l : List Arrival) (a : Arrival) (records : List ℕ) → a.number < length records → has a.number l ≡ false
    → ((s : ℕ) → 1 ≤ s → s ≤ sent_most → get_or records s 0 ≡ first_record s l)
    → (s : ℕ) → 1 ≤ s → s ≤ sent_most → get_or (set records a.number (length l + 1)) s 0 ≡ first_record s (l ++ (a ∷ []))
recorded_more l a records room new h s low high = go (eqb a.number s) refl
  where
    go : (t : Bool) → eqb a.number s ≡ t → get_or (set records a.number (length l + 1)) s 0 ≡ first_record s (l ++ (a ∷ []))
    go true e =
        let q : a.number ≡ s = eqb-true a.number s e in
        rw (← q) (get_or-set_same records a.number (length l + 1) 0 room
        ∙ sym (record-more a.number l a ∙ simp (new, eq-eqb a.number a.number refl)))
    go false e =
        let other : s ≡ a.number → ⊥ = λ q. eqb-false a.number s e (sym q) in
        get_or-set_other records a.number s (length l + 1) 0 other ∙ h s low high ∙ sym (record-more s l a ∙ rw e (same (has s l) refl))
      where
        same : (t : Bool) → has s l ≡ t → cond t (first_record s l) 0 ≡ first_record s l
        same true q = refl
        same false q = sym (record-none s l q)

-- a discontinuity stays under first arrivals more
pub discontinuity-stays : (fs : List Arrival) (a : Arrival) (s : ℕ) (p : FirstArrival) → discontinuity fs s ≡ some p
    → discontinuity (fs ++ (a ∷ [])) s ≡ some p
unfolding discontinuity
discontinuity-stays fs a s p e = rw (placed-more, first_above-append, e)

-- a packet that is not among some first arrivals, and not below NextExp, has no discontinuity there
pub discontinuity-none : (fs : List Arrival) (s : ℕ) → 1 ≤ s → has s fs ≡ false → next_exp fs ≤ s → discontinuity fs s ≡ none
discontinuity-none fs s low new h =
    (search-agrees s low fs new).same
    ∙ first_above-none s (jumps fs) (all-weaken (λ (p : FirstArrival) (w : Within fs p). omega arith) (jumps fs) (jumps-within fs))

-- one that a first arrival more skips has that arrival as its own
pub discontinuity-new : (fs : List Arrival) (a : Arrival) (s : ℕ) → 1 ≤ s → has s fs ≡ false → next_exp fs ≤ s → s < a.number
    → discontinuity (fs ++ (a ∷ [])) s ≡ some (place_after fs a)
unfolding discontinuity first_above
discontinuity-new fs a s low new h g =
    let n : first_above s (placed fs) ≡ none = discontinuity-none fs s low new h in
    rw (placed-more, first_above-append, n) (simp (lt-ltb _ _ g))

-- a packet has one discontinuity
same_place : {p q : FirstArrival} → some p ≡ some q → p.position ≡ q.position
same_place {p} {q} e = let same : p ≡ q = cc in ap (λ (p : FirstArrival). p.position) same

-- the tables under a copy of a packet that has arrived
pub kept-copy : (l : List Arrival) (a : Arrival) (numbers records skipped : List ℕ) (state : State)
    → EngineTables l numbers records skipped state → has a.number l ≡ true → EngineTables (l ++ (a ∷ [])) numbers records skipped state
kept-copy l a numbers records skipped state f arrived =
    let same : firsts (l ++ (a ∷ [])) ≡ firsts l = firsts-duplicate l a arrived in
    record {
      places = f.places;
      next = f.next ∙ sym (ap next_exp same);
      numbered = rw same f.numbered;
      recorded = record { at = λ s low high. f.recorded.at s low high ∙ sym (recorded_copy l a arrived s) };
      skips = λ s low h new. rw same (f.skips s low (rw same at h) (has-more-false s l a new).0);
    }

module _ (l : List Arrival) (a : Arrival) (numbers records skipped : List ℕ) (state : State)
    (f : EngineTables l numbers records skipped state) (new : has a.number l ≡ false)
    (low : 1 ≤ a.number) (high : a.number ≤ sent_most) (room : length l < arrivals_most) where
  -- its number is put after those of the first arrivals before it
  numbers_more : NumberTable (firsts l ++ (a ∷ [])) (set numbers state.count a.number) (state.count + 1)
  numbers_more = numbered_more (firsts l) a numbers state.count (omega (arith, f.places, length-firsts l)) f.numbered

  -- and its record at its packet
  records-more : RecordTable (l ++ (a ∷ [])) (set records a.number (length l + 1))
  records-more = record { at = recorded_more l a records (omega (arith, f.places)) new f.recorded.at }

  -- the discontinuity of a packet below NextExp stays
  skips-stay : (s : ℕ) → 1 ≤ s → s < next_exp (firsts l) → has s l ≡ false
      → (p : FirstArrival) → discontinuity (firsts l ++ (a ∷ [])) s ≡ some p → get_or skipped s 0 ≡ p.position
  unfolding is_in_order
  skips-stay s one h other p e =
      let d = reordered-discontinuity s one (firsts l) (has-firsts s l ∙ other) (lt-leb _ _ h) in
      f.skips s one h other d.at d.is ∙ same_place (sym (discontinuity-stays (firsts l) a s d.at d.is) ∙ e)

  -- the tables under a first arrival that is reordered: where its discontinuity stood any number may stand
  pub kept-reordered : (largest : ℕ) → a.number < state.next
      → EngineTables (l ++ (a ∷ [])) (set numbers state.count a.number) (set records a.number (length l + 1))
      (set skipped a.number largest)
      (record { count = state.count + 1; next = state.next })
  unfolding next_after
  kept-reordered largest late =
      let stays : next_exp (firsts l ++ (a ∷ [])) ≡ next_exp (firsts l) =
      next_more (firsts l) a ∙ rw (lt-leb (next_exp (firsts l)) a.number (omega (arith, f.next))) in
      record {
        places = (simp length-set f.places.0, simp length-set f.places.1, simp length-set f.places.2);
        next = rw (firsts-first l a new, stays) f.next;
        numbered = rw (firsts-first l a new) numbers_more;
        recorded = records-more;
        skips = rw (firsts-first l a new, stays) (λ s one h other p q.
            let k = has-more-false s l a other in
            get_or-set_other skipped a.number s largest 0 (λ e. k.1 (sym e)) ∙ skips-stay s one h k.0 p q);
      }

  -- the tables under a first arrival that is in order, and skips the packets from NextExp on
  pub kept-in-order : state.next ≤ a.number → (skipped' : List ℕ) → Filled state.next a.number (state.count + 1) skipped skipped'
      → EngineTables (l ++ (a ∷ [])) (set numbers state.count a.number) (set records a.number (length l + 1)) skipped'
      (record { count = state.count + 1; next = a.number + 1 })
  unfolding next_after
  kept-in-order ahead skipped' filled =
      let moves : next_exp (firsts l ++ (a ∷ [])) ≡ a.number + 1 =
      next_more (firsts l) a ∙ rw (le-leb (next_exp (firsts l)) a.number (omega (arith, f.next))) in
      record {
        places = (simp length-set f.places.0, simp length-set f.places.1, filled.same ∙ f.places.2);
        next = rw (firsts-first l a new, moves);
        numbered = rw (firsts-first l a new) numbers_more;
        recorded = records-more;
        skips =
            rw (firsts-first l a new, moves) (λ s one h other p q. go s one h (has-more-false s l a other) p q (ltb s state.next) refl);
      }
    where
      go : (s : ℕ) → 1 ≤ s → s < a.number + 1 → (has s l ≡ false) × (a.number ≡ s → ⊥) → (p : FirstArrival)
          → discontinuity (firsts l ++ (a ∷ [])) s ≡ some p → (t : Bool) → ltb s state.next ≡ t → get_or skipped' s 0 ≡ p.position
      go s one h other p q true e =
          let below : s < state.next = ltb-true _ _ e in
          filled.below s below ∙ skips-stay s one (omega (arith, f.next)) other.0 p q
      go s one h other p q false e =
          let from : state.next ≤ s = ltb-false _ _ e in
          let to : s < a.number = omega (arith, other.1) in
          filled.inside s from to
          ∙ ap (λ (n : ℕ). n + 1) f.numbered.all
          ∙ same_place (sym (discontinuity-new (firsts l) a s one (has-firsts s l ∙ other.0) (omega (arith, f.next)) to) ∙ q)

-- ---- along a file

-- a record of a checked file
pub here : {d : Decoded} {layout : Layout} → FileLayout d layout → (i : ℕ) → i < layout.arrivals → HasRecord d layout i
here h i g = record { file = h; inside = g }

-- a file of this layout has as many arrivals
pub arrivals-laid : (d : Decoded) (layout : Layout) → FileLayout d layout → layout.arrivals ≡ length (sample_arrivals d)
arrivals-laid d layout h = ap (λ (layout : Layout). layout.arrivals) h.laid

-- there are i among its first i
pub before-count : (d : Decoded) (layout : Layout) (i : ℕ) → FileLayout d layout → i ≤ layout.arrivals → length (before d i) ≡ i
before-count d layout i h most = length-take-le i (sample_arrivals d) (omega (arith, arrivals-laid d layout h))

module _ (d : Decoded) (layout : Layout) (i : ℕ) (h : HasRecord d layout i) where
  -- the number of its arrival is that of a packet
  pub number-few : (a : Arrival) → a ≡ arrival_at d i → (a.number ≡ (arrival_at d i).number) × (1 ≤ a.number) × (a.number ≤ sent_most)
  number-few a e =
      let same : a.number ≡ (arrival_at d i).number = ap (λ (b : Arrival). b.number) e in
      let n = h.file.numbers i h.inside in
      (same, omega (arith, n), omega (arith, n, h.file.sent_few))

  -- record i + 1 is one of the arrivals
  pub inside-laid : i < length (sample_arrivals d)
  inside-laid = omega (arith, arrivals-laid d layout h.file)

  -- the arrivals up to record i + 1 are those before it and its own
  pub before_more : before d (i + 1) ≡ before d i ++ (arrival_at d i ∷ [])
  before_more = take_more no_arrival (sample_arrivals d) i inside-laid

  -- i arrivals are before it
  pub before-length : length (before d i) ≡ i
  before-length = before-count d layout i h.file (omega (arith, h.inside))

  -- at most i of them are first arrivals
  pub numbered-le : (numbers : List ℕ) (count : ℕ) → NumberTable (firsts (before d i)) numbers count → (count ≤ i) × (i < arrivals_most)
  numbered-le numbers count n = omega (arith, n.all, length-firsts (before d i), before-length, h.inside, h.file.few)

module _ (l : List Arrival) (numbers records skipped : List ℕ) (state : State) (f : EngineTables l numbers records skipped state)
    (s : ℕ) (low : 1 ≤ s) (high : s ≤ sent_most) where
  -- a packet has a record if it has arrived
  recorded-has : eqb (get_or records s 0) 0 ≡ not (has s l)
  recorded-has = go (has s l) refl
    where
      go : (t : Bool) → has s l ≡ t → eqb (get_or records s 0) 0 ≡ not t
      go true q = ne_eqb (get_or records s 0) 0 (λ e. omega (arith, record-some s l q, f.recorded.at s low high, e))
      go false q = eq-eqb _ 0 (f.recorded.at s low high ∙ record-none s l q)

  -- with one it has arrived
  pub arrived-recorded : (get_or records s 0 ≡ 0 → ⊥) → has s l ≡ true
  arrived-recorded e = not-false (has s l) (sym recorded-has ∙ ne_eqb _ 0 e)

  -- without one it has not
  pub new-recorded : get_or records s 0 ≡ 0 → has s l ≡ false
  new-recorded e = not-true (has s l) (sym recorded-has ∙ eq-eqb _ 0 e)
