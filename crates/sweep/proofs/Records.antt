-- The figures of record i + 1, and the table after it, from the mark of its packet. A packet that has arrived has the mark 4,097; any
-- other has 0 or a record, which is at most 4,096. So the mark tells a copy from a first arrival (`is-copy`, `is-new`). The mark of a
-- reordered packet is the record of its discontinuity. The file has its time there (`jump-time`), and the list of positions its position
-- (`jump-position`); these give the late time and the extent (`figures-late`). A copy leaves the table unchanged (`held-copy`). After a
-- first arrival `mark-more` gives the mark of each packet (`held_new`). If it is reordered, only its own mark changes (`held-late`); if
-- it is in order, the packets that it skips were filled before (`held-in-order`). d is the decoded file, y its layout, i the number of
-- records before; number and mark are those of record i + 1, k says so; h says on which side of 4,096 the mark is, late that the number
-- is below NextExp, t that the table is that of the records before; s is any packet, at index s - 1, and table' the table after the
-- record. Assumes nothing.
use mathlib.Core.Path.{◌≡◌, refl, sym, ap, ◌∙◌}
use mathlib.Core.Bool.{Bool, true, false, cond, ◌&&◌}
use mathlib.Core.List.{List, [], ◌∷◌, ◌++◌}
use Prim.Native.Nat.{ℕ, ◌+◌, ◌-◌, ◌≤◌, ◌<◌}
use native.Mathlib.Omega.{arith}
use lib.Dec.{eqb, leb, ltb}
use lib.ListN.{length, get_or, set, take, drop, replicate, length-set, length-append}
use lib.Seq.{get_or-take, get_or-set_same, get_or-set_other, drop-set-lt}
use borrow.Author.Tests.{eqb-true, eqb-false, leb-true, leb-false, le-leb, lt-leb, ltb-true, ltb-false, lt-ltb, le-ltb}
use Rattle.octets.specs.Memory.{splice}
use Rattle.rfc4737.specs.declared.Arrival.{Arrival}
use Rattle.rfc4737.specs.Judge.{arrivals_most}
use Rattle.rfc4737.specs.Times.{elapsed}
use Rattle.rfc4737.specs.Numbering.{reordered_number, amount_of}
use Rattle.rfc4737.specs.Arrivals.{has, firsts, first_record}
use Rattle.rfc4737.specs.Order.{next_exp, next_after}
use Rattle.rfc4737.specs.Extent.{extent_from, late_from}
use Rattle.rfc4737.specs.Answer.{in_order_answer, reordered_answer}
use Rattle.rfc4737.proofs.Arrivals.{firsts-duplicate, firsts-first, length-firsts}
use Rattle.rfc4737.proofs.Folds.{next_more, next-positive, answer-duplicate, answer-first, first-in-order, first-reordered}
use Rattle.sample.specs.declared.Layout.{Layout}
use Rattle.sample.specs.Decode.{Decoded}
use Rattle.metrics.specs.Sample.{size_of, sample_arrivals}
use Rattle.sample.specs.Places.{no_arrival}
use Rattle.metrics.specs.Records.{arrival_at, before, answer_at, answers_to, HasRecord}
use Rattle.metrics.proofs.TablesFollow.{before_more, before-length}
use Rattle.metrics.proofs.Records.{record-some, first-at}
use Rattle.sweep.specs.declared.table.State.{State}
use Rattle.sweep.specs.Figures.{figures_of, positions_of}
use Rattle.sweep.specs.Calls.{table_places}
use Rattle.sweep.specs.Private.{arrived_mark, mark_of, TableAfter}
use Rattle.sweep.proofs.Marks.{mark-arrived, mark-copy, mark-more, mark-ahead, SkippingJump, skipping-jump, position_at, skipped-length, skipped-past, skipped_at}

-- of record i + 1: its number, what stands at its packet in the table, and the state after the arrivals before it
pub record KnownRecord (d : Decoded) (y : Layout) (i number mark : ℕ) (state : State) : Type 0 where
  pub has : HasRecord d y i
  pub is : number ≡ (arrival_at d i).number
  pub low : 1 ≤ number
  pub high : number ≤ table_places
  pub stands : mark ≡ mark_of (before d i) number
  pub count : state.count ≡ length (firsts (before d i))
  pub next : state.next ≡ next_exp (firsts (before d i))

-- from the arrival that is read and the table
pub known-record : (d : Decoded) (y : Layout) (i : ℕ) (state : State) → HasRecord d y i → {table : List ℕ}
    → TableAfter (before d i) table state → (a : Arrival) → (a ≡ arrival_at d i) × (1 ≤ a.number) × (a.number ≤ table_places)
    → KnownRecord d y i a.number (get_or table (a.number - 1) 0) state
known-record d y i state has t a read =
    record {
      has = has;
      is = ap (λ (b : Arrival). b.number) read.0;
      low = read.1;
      high = read.2;
      stands = t.at a.number read.1 read.2;
      count = t.count;
      next = t.next;
    }

-- a test of two places is that of their packets
leb-pred : (a b : ℕ) → 1 ≤ a → 1 ≤ b → leb (a - 1) (b - 1) ≡ leb a b
leb-pred a b h g = go (leb a b) refl
  where
    go : (t : Bool) → leb a b ≡ t → leb (a - 1) (b - 1) ≡ t
    go true e = let q : a ≤ b = leb-true _ _ e in le-leb (a - 1) (b - 1) (omega arith)
    go false e = let q : b < a = leb-false _ _ e in lt-leb (a - 1) (b - 1) (omega arith)

ltb-pred : (a b : ℕ) → 1 ≤ a → 1 ≤ b → ltb (a - 1) (b - 1) ≡ ltb a b
ltb-pred a b h g = go (ltb a b) refl
  where
    go : (t : Bool) → ltb a b ≡ t → ltb (a - 1) (b - 1) ≡ t
    go true e = let q : a < b = ltb-true _ _ e in lt-ltb (a - 1) (b - 1) (omega arith)
    go false e = let q : b ≤ a = ltb-false _ _ e in le-ltb (a - 1) (b - 1) (omega arith)

module _ (d : Decoded) (y : Layout) (i number mark : ℕ) (state : State) (k : KnownRecord d y i number mark state) where
  -- there are few first arrivals
  pub few : (state.count ≤ i) × (i < arrivals_most) × (1 ≤ state.next)
  few =
      omega (
        arith,
        k.count,
        k.next,
        length-firsts (before d i),
        before-length d y i k.has,
        k.has.inside,
        k.has.file.few,
        next-positive (firsts (before d i)),
      )

  -- a mark of at most 4,096 is at a packet that has not arrived
  is-new : mark ≤ arrivals_most → has (arrival_at d i).number (before d i) ≡ false
  is-new h = go (has (arrival_at d i).number (before d i)) refl
    where
      go : (t : Bool) → has (arrival_at d i).number (before d i) ≡ t → t ≡ false
      go false q = refl
      go true q =
          let e : mark ≡ arrived_mark = k.stands ∙ ap (mark_of (before d i)) k.is ∙ mark-arrived (before d i) (arrival_at d i).number q in
          absurd (omega arith)

  -- where its discontinuity stands if it is reordered
  at-jump : mark ≤ arrivals_most → number < state.next → SkippingJump (before d i) (arrival_at d i).number
  at-jump h late =
      skipping-jump (before d i) (arrival_at d i).number (omega (arith, k.is, k.low)) (is-new h) (omega (arith, k.is, k.next))

  mark-is : (h : mark ≤ arrivals_most) (late : number < state.next) → mark ≡ first_record (at-jump h late).place.number (before d i)
  mark-is h late = k.stands ∙ ap (mark_of (before d i)) k.is ∙ (at-jump h late).mark

  -- the mark is then one of the records before it
  pub jump-inside : mark ≤ arrivals_most → number < state.next → (1 ≤ mark) × (mark ≤ i)
  jump-inside h late =
      let r = record-some (at-jump h late).place.number (before d i) (at-jump h late).arrived in
      omega (arith, r, mark-is h late, before-length d y i k.has)

  -- the place of its discontinuity among the first arrivals
  place_inside : (h : mark ≤ arrivals_most) (late : number < state.next)
      → (at-jump h late).place.position - 1 < length (firsts (before d i))
  place_inside h late = omega (arith, (at-jump h late).low, (at-jump h late).high)

  -- where its record is the mark
  mark-at : (h : mark ≤ arrivals_most) (late : number < state.next)
      → mark ≡ first_record (get_or (firsts (before d i)) ((at-jump h late).place.position - 1) no_arrival).number (before d i)
  mark-at h late =
      mark-is h late ∙ ap (λ (n : ℕ). first_record n (before d i)) (sym (ap (λ (a : Arrival). a.number) (at-jump h late).stands))

  -- at which its time stands in the file
  jump-time : (h : mark ≤ arrivals_most) (late : number < state.next) → (arrival_at d (mark - 1)).time ≡ (at-jump h late).place.time
  jump-time h late =
      sym (ap (λ (a : Arrival). a.time) (get_or-take i (sample_arrivals d) (mark - 1) no_arrival (omega (arith, jump-inside h late))))
      ∙ ap (λ (m : ℕ). (get_or (before d i) (m - 1) no_arrival).time) (mark-at h late)
      ∙ ap (λ (a : Arrival). a.time) (first-at no_arrival (before d i) ((at-jump h late).place.position - 1) (place_inside h late))
      ∙ ap (λ (a : Arrival). a.time) (at-jump h late).stands

  module _ (positions : List ℕ) (p : take i positions ≡ positions_of (answers_to d i)) where
    -- and its position in the list of positions
    jump-position : (h : mark ≤ arrivals_most) (late : number < state.next) → get_or positions (mark - 1) 0 ≡ (at-jump h late).place.position
    jump-position h late =
        let f = at-jump h late in
        let e = position_at (size_of d) no_arrival (before d i) ((at-jump h late).place.position - 1) (place_inside h late) in
        sym (get_or-take i positions (mark - 1) 0 (omega (arith, jump-inside h late)))
        ∙ ap (λ (l : List ℕ). get_or l (mark - 1) 0) p
        ∙ rw (← mark-at h late) at e
        ∙ omega (arith, f.low)

    -- which is at most the count
    pub jump-before : mark ≤ arrivals_most → number < state.next → get_or positions (mark - 1) 0 ≤ state.count
    jump-before h late = omega (arith, jump-position h late, (at-jump h late).high, k.count)

    -- the figures of a reordered packet, by the time of its discontinuity and its own
    pub figures-late : (h : mark ≤ arrivals_most) (late : number < state.next) (past own : Arrival)
        → past ≡ arrival_at d (mark - 1)
        → own ≡ arrival_at d i
        → record {
          flag = reordered_number (elapsed past.time own.time);
          position = state.count + 1;
          extent = state.count + 1 - get_or positions (mark - 1) 0;
          late = amount_of (elapsed past.time own.time);
        }
        ≡ figures_of (answer_at d i)
    unfolding figures_of reordered_answer extent_from late_from
    figures-late h late past own p o =
        let e : past.time ≡ (arrival_at d (mark - 1)).time = ap (λ (a : Arrival). a.time) p in
        let f : own.time ≡ (arrival_at d i).time = ap (λ (a : Arrival). a.time) o in
        sym (ap figures_of
        (answer-first (size_of d) (before d i) (arrival_at d i) (is-new h)
        ∙ first-reordered (size_of d) (firsts (before d i)) (arrival_at d i) (omega (arith, k.is, k.next))
        ∙ ap (reordered_answer (size_of d) (firsts (before d i)) (arrival_at d i)) (at-jump h late).is)
        ∙ rw (← k.count, ← jump-position h late, ← jump-time h late, ← e, ← f))

  -- of a packet in order
  pub figures-in-order : mark ≤ arrivals_most → state.next ≤ number
      → record { flag = 0; position = state.count + 1; extent = 0; late = 0 } ≡ figures_of (answer_at d i)
  unfolding figures_of in_order_answer
  figures-in-order h ahead =
      sym (ap figures_of
      (answer-first (size_of d) (before d i) (arrival_at d i) (is-new h)
      ∙ first-in-order (size_of d) (firsts (before d i)) (arrival_at d i) (omega (arith, k.is, k.next)))
      ∙ rw (← k.count))

  -- a mark over 4,096 is at a packet that has arrived
  pub is-copy : arrivals_most < mark → has (arrival_at d i).number (before d i) ≡ true
  is-copy h = go (has (arrival_at d i).number (before d i)) refl (leb (next_exp (firsts (before d i))) (arrival_at d i).number) refl
    where
      s : ℕ
      s = (arrival_at d i).number

      go : (t : Bool) → has s (before d i) ≡ t → (u : Bool) → leb (next_exp (firsts (before d i))) s ≡ u → t ≡ true
      go true q u r = refl
      go false q true r =
          let e : mark ≡ 0 =
          k.stands ∙ ap (mark_of (before d i)) k.is ∙ mark-ahead (before d i) s (omega (arith, k.is, k.low)) (leb-true _ _ r) in
          absurd (omega arith)
      go false q false r =
          let j = skipping-jump (before d i) s (omega (arith, k.is, k.low)) q (leb-false _ _ r) in
          let e : mark ≡ first_record j.place.number (before d i) = k.stands ∙ ap (mark_of (before d i)) k.is ∙ j.mark in
          let b = record-some j.place.number (before d i) j.arrived in
          absurd (omega (arith, e, b, few, before-length d y i k.has))

  -- the figures of a copy
  pub figures-copy : arrivals_most < mark → record { flag = 3; position = 0; extent = 0; late = 0 } ≡ figures_of (answer_at d i)
  unfolding figures_of
  figures-copy h = sym (ap figures_of (answer-duplicate (size_of d) (before d i) (arrival_at d i) (is-copy h)))

  -- ---- the table

  module _ (table : List ℕ) (t : TableAfter (before d i) table state) where
    -- after a copy
    pub held-copy : arrivals_most < mark → TableAfter (before d (i + 1)) table state
    held-copy h =
        let arrived = is-copy h in
        let same : firsts (before d i ++ (arrival_at d i ∷ [])) ≡ firsts (before d i) =
        firsts-duplicate (before d i) (arrival_at d i) arrived in
        rw (before_more d y i k.has)
        (record {
          room = t.room;
          at = λ s low high. t.at s low high ∙ sym (mark-copy (before d i) (arrival_at d i) s arrived);
          count = t.count ∙ sym (ap length same);
          next = t.next ∙ sym (ap next_exp same);
        })

    -- after a first arrival: at its packet that it has arrived, at those that it skips its record, all else as it was
    held_new : mark ≤ arrivals_most → (table' : List ℕ) → length table' ≡ length table
        → ((s : ℕ) → 1 ≤ s → s ≤ table_places → get_or table' (s - 1) 0
        ≡ cond (eqb number s) arrived_mark (cond (leb state.next s && ltb s number) (i + 1) (get_or table (s - 1) 0)))
        → (next : ℕ) → next ≡ next_after state.next number
        → TableAfter (before d (i + 1)) table' (record { count = state.count + 1; next = next })
    held_new h table' same at next e =
        let new = is-new h in
        rw (before_more d y i k.has)
        (record {
          room = omega (arith, same, t.room);
          at = λ s low high. at s low high
              ∙ rw (t.at s low high, k.is, t.next) (sym (rw (before-length d y i k.has) at
              (mark-more (before d i) (arrival_at d i) new s low)));
          count =
              rw (firsts-first (before d i) (arrival_at d i) new, length-append (firsts (before d i)) (arrival_at d i ∷ []))
              (ap (λ (n : ℕ). n + 1) t.count);
          next =
              rw (firsts-first (before d i) (arrival_at d i) new, next_more (firsts (before d i)) (arrival_at d i)) (e ∙ rw (t.next, k.is));
        })

    -- one that is reordered
    pub held-late : mark ≤ arrivals_most → number < state.next
        → TableAfter (before d (i + 1)) (set table (number - 1) arrived_mark) (record { count = state.count + 1; next = state.next })
    unfolding next_after
    held-late h late =
        held_new h (set table (number - 1) arrived_mark) (length-set table (number - 1) arrived_mark)
        (λ s low high. go s low high (eqb number s) refl)
        state.next (rw (lt-leb state.next number late))
      where
        go : (s : ℕ) → 1 ≤ s → s ≤ table_places → (b : Bool) → eqb number s ≡ b
            → get_or (set table (number - 1) arrived_mark) (s - 1) 0
            ≡ cond b arrived_mark (cond (leb state.next s && ltb s number) (i + 1) (get_or table (s - 1) 0))
        go s low high true q =
            let e : number ≡ s = eqb-true number s q in
            rw e (get_or-set_same table (s - 1) arrived_mark 0 (omega (arith, t.room)))
        go s low high false q =
            let other : number ≡ s → ⊥ = eqb-false number s q in
            let apart : s - 1 ≡ number - 1 → ⊥ = λ e. other (omega (arith, k.low)) in
            get_or-set_other table (number - 1) (s - 1) arrived_mark 0 apart ∙ side (leb state.next s) refl
          where
            side : (b : Bool) → leb state.next s ≡ b → get_or table (s - 1) 0 ≡ cond (b && ltb s number) (i + 1) (get_or table (s - 1) 0)
            side false r = refl
            side true r =
                let a : state.next ≤ s = leb-true _ _ r in
                let b : number ≤ s = omega arith in
                rw (le-ltb s number b)

    -- places past the table's stay
    pub rest-late : drop table_places (set table (number - 1) arrived_mark) ≡ drop table_places table
    rest-late = drop-set-lt table_places table (number - 1) arrived_mark (omega (arith, k.low, k.high))

    -- one that is in order: its record is put at those that it skips
    module _ (ahead : state.next ≤ number) (filled : List ℕ)
        (f : filled ≡ splice (state.next - 1) (replicate (number - 1 - (state.next - 1)) (i + 1)) table) where
      inside : (state.next - 1 ≤ number - 1) × (number - 1 < length table)
      inside = omega (arith, k.low, k.high, t.room)

      same : length filled ≡ length table
      same = ap length f ∙ skipped-length _ _ _ table inside.0 (omega (arith, inside.1))

      pub held-in-order : mark ≤ arrivals_most → TableAfter (before d (i + 1)) (set filled (number - 1) arrived_mark)
          (record { count = state.count + 1; next = number + 1 })
      unfolding next_after
      held-in-order h =
          held_new h (set filled (number - 1) arrived_mark) (length-set filled (number - 1) arrived_mark ∙ same)
          (λ s low high. go s low high (eqb number s) refl)
          (number + 1) (rw (le-leb state.next number ahead))
        where
          go : (s : ℕ) → 1 ≤ s → s ≤ table_places → (b : Bool) → eqb number s ≡ b
              → get_or (set filled (number - 1) arrived_mark) (s - 1) 0
              ≡ cond b arrived_mark (cond (leb state.next s && ltb s number) (i + 1) (get_or table (s - 1) 0))
          go s low high true q =
              let e : number ≡ s = eqb-true number s q in
              rw e (get_or-set_same filled (s - 1) arrived_mark 0 (omega (arith, t.room, same)))
          go s low high false q =
              let other : number ≡ s → ⊥ = eqb-false number s q in
              let apart : s - 1 ≡ number - 1 → ⊥ = λ e. other (omega (arith, k.low)) in
              get_or-set_other filled (number - 1) (s - 1) arrived_mark 0 apart
              ∙ ap (λ (l : List ℕ). get_or l (s - 1) 0) f ∙ skipped_at _ _ _ table inside.0 (omega (arith, inside.1)) (s - 1)
              ∙ rw (leb-pred state.next s few.2 low, ltb-pred s number low k.low)

      pub rest-in-order : drop table_places (set filled (number - 1) arrived_mark) ≡ drop table_places table
      rest-in-order =
          drop-set-lt table_places filled (number - 1) arrived_mark (omega (arith, k.low, k.high))
          ∙ ap (drop table_places) f ∙ skipped-past _ _ _ table inside.0 (omega (arith, inside.1)) table_places (omega (arith, k.high))
