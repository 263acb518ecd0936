-- The answer for record i + 1, by the class that the tables give it (`told`). A packet with a record has arrived, so it is a duplicate;
-- one without has not: from NextExp on it is in order, and below NextExp it is reordered, has a discontinuity, and `skipped` has its
-- position. By the same tests, a packet that is reordered by the tables has not arrived (`new_told`), and one that has not arrived and is
-- below NextExp is reordered by them (`late-told`).
-- Then the figures of a record whose answer is reordered. Its extent gives the position of its discontinuity (`late-classed`), which is
-- one of the positions (`late-place`). The table of numbers has the packet of that position, and the table of records that packet's
-- record, which is that first arrival (`first-stands`); so the time there is the discontinuity's (`late-time`). With the late time, the
-- byte offset and the largest n the answer is complete (`late-answer`); over the first arrivals before the discontinuity the offset is 0
-- (`late-alone`).
-- Here d is the decoded file, f that the tables are those of the i records before, n the arrival's number, k its class, at the position
-- of its discontinuity, count the number of first arrivals, and p an index among them. Assumes nothing.
use mathlib.Core.Path.{◌≡◌, refl, sym, ap, ◌∙◌}
use mathlib.Core.Bool.{Bool, true, false, cond, true≢false}
use mathlib.Core.List.{List}
use mathlib.Core.Option.{some}
use Prim.Native.Nat.{ℕ, ◌+◌, ◌-◌, ◌≤◌, ◌<◌}
use native.Mathlib.Omega.{arith}
use lib.Dec.{eqb, leb}
use lib.ListN.{length, take, get_or}
use lib.Seq.{get_or-take}
use borrow.Author.Tests.{eq-eqb, eqb-true, eqb-false, leb-true, leb-false, lt-leb}
use Rattle.rfc4737.specs.declared.Arrival.{Arrival}
use Rattle.rfc4737.specs.declared.Answer.{Answer}
use Rattle.rfc4737.specs.declared.LateTime.{LateTime}
use Rattle.rfc4737.specs.declared.ReorderedFigures.{ReorderedFigures}
use Rattle.rfc4737.specs.Times.{elapsed}
use Rattle.rfc4737.specs.Arrivals.{has, firsts, first_record}
use Rattle.rfc4737.specs.Order.{FirstArrival, is_in_order, jump_size, next_exp}
use Rattle.rfc4737.specs.Extent.{discontinuity, extent_from, late_from, byte_offset, largest_n}
use Rattle.rfc4737.specs.Runs.{is_reordered}
use Rattle.rfc4737.specs.Answer.{in_order_answer, reordered_answer}
use Rattle.rfc4737.proofs.Arrivals.{has-firsts, length-firsts}
use Rattle.rfc4737.proofs.Folds.{answer-duplicate, answer-first, first-in-order, first-reordered}
use Rattle.rfc4737.proofs.Jumps.{reordered-discontinuity}
use Rattle.rfc4737.specs.Runs.{is_reordered}
use Rattle.rfc4737.specs.Judge.{sent_most}
use Rattle.sample.specs.declared.Layout.{Layout}
use Rattle.sample.specs.Decode.{Decoded}
use Rattle.metrics.specs.Sample.{size_of, sample_arrivals}
use Rattle.sample.specs.Places.{no_arrival}
use Rattle.metrics.specs.Records.{arrival_at, before, answer_at, FileLayout, HasRecord}
use Rattle.metrics.specs.Private.Tables.{NumberTable, Packets, RecordTable, EngineTables, class_by, answer_by, ClassOf, IfLate}
use Rattle.metrics.specs.declared.engine.kind.Class.{Class}
use Rattle.metrics.specs.declared.engine.seen.State.{State}
use Rattle.metrics.proofs.TablesFollow.{before-count, before-length, arrived-recorded, new-recorded}
use Rattle.metrics.proofs.Records.{record-none, record-some, has-at, first-at}
use Rattle.metrics.proofs.Reordered.{found}

-- the figures of a reordered packet that its class does not tell
abbrev untold : (ℕ → ℕ) → List Arrival → Arrival → ReorderedFigures
untold size fs a =
    record {
      position = 0;
      extent = 0;
      late = late_from a.time (discontinuity fs a.number);
      offset = byte_offset size fs a.number;
      largest = largest_n fs a.number;
    }

-- with these its answer is that of the class
untold-answer : (size : ℕ → ℕ) (fs : List Arrival) (a : Arrival) (count at : ℕ) (p : FirstArrival) → count ≡ length fs → at ≡ p.position
    → discontinuity fs a.number ≡ some p → reordered_answer size fs a (discontinuity fs a.number)
    ≡ answer_by count (Class.Reordered at) (untold size fs a)
unfolding reordered_answer extent_from
untold-answer size fs a count at p c e q = rw (c, e, q)

module _ (d : Decoded) (i : ℕ) (numbers records skipped : List ℕ) (state : State)
    (f : EngineTables (before d i) numbers records skipped state) (n : ℕ) (is : n ≡ (arrival_at d i).number) (low : 1 ≤ n)
    (high : n ≤ sent_most) where
  -- the figures of a reordered packet that its class does not have
  abbrev figures : ReorderedFigures
  figures = untold (size_of d) (firsts (before d i)) (arrival_at d i)

  -- a packet with a record is a duplicate
  told-duplicate : (get_or records n 0 ≡ 0 → ⊥) → answer_at d i ≡ answer_by state.count (Class.Duplicate (get_or records n 0)) figures
  told-duplicate e =
      let arrived : has (arrival_at d i).number (before d i) ≡ true =
      rw is at (arrived-recorded (before d i) numbers records skipped state f n low high e) in
      answer-duplicate (size_of d) (before d i) (arrival_at d i) arrived
      ∙ rw (f.recorded.at n low high, is)

  -- a packet without one has not arrived
  new : get_or records n 0 ≡ 0 → has (arrival_at d i).number (before d i) ≡ false
  new e = rw is at (new-recorded (before d i) numbers records skipped state f n low high e)

  -- from NextExp on it is in order
  told-in-order : get_or records n 0 ≡ 0 → state.next ≤ n → answer_at d i ≡ answer_by state.count (Class.InOrder (n - state.next)) figures
  unfolding in_order_answer jump_size
  told-in-order e ahead =
      answer-first (size_of d) (before d i) (arrival_at d i) (new e)
      ∙ first-in-order (size_of d) (firsts (before d i)) (arrival_at d i) (omega (arith, is, f.next))
      ∙ rw (f.numbered.all, f.next, is)

  -- below NextExp it is reordered, and the table has its discontinuity
  told-reordered : get_or records n 0 ≡ 0 → n < state.next → answer_at d i
      ≡ answer_by state.count (Class.Reordered (get_or skipped n 0)) figures
  unfolding is_in_order
  told-reordered e late =
      let s = (arrival_at d i).number in
      let behind : s < next_exp (firsts (before d i)) = omega (arith, is, f.next) in
      let k = reordered-discontinuity s (rw is at low) (firsts (before d i)) (has-firsts s (before d i) ∙ new e) (lt-leb _ _ behind) in
      answer-first (size_of d) (before d i) (arrival_at d i) (new e)
      ∙ first-reordered (size_of d) (firsts (before d i)) (arrival_at d i) behind
      ∙ untold-answer (size_of d) (firsts (before d i)) (arrival_at d i) _ _ k.at f.numbered.all
      (ap (λ (m : ℕ). get_or skipped m 0) is ∙ f.skips s (rw is at low) behind (new e) k.at k.is) k.is

  -- the class that the tables give is the answer's
  tells : answer_at d i ≡ answer_by state.count (class_by records skipped state.next n) figures
  unfolding class_by
  tells = go (eqb (get_or records n 0) 0) refl (leb state.next n) refl
    where
      go : (t : Bool) → eqb (get_or records n 0) 0 ≡ t → (u : Bool) → leb state.next n ≡ u
          → answer_at d i ≡ answer_by state.count
          (cond t (cond u (Class.InOrder (n - state.next)) (Class.Reordered (get_or skipped n 0))) (Class.Duplicate (get_or records n 0)))
          figures
      go false e u q = told-duplicate (eqb-false _ _ e)
      go true e true q = told-in-order (eqb-true _ _ e) (leb-true _ _ q)
      go true e false q = told-reordered (eqb-true _ _ e) (leb-false _ _ q)

  -- so is any class that is this one
  pub told : (k : Class) → k ≡ class_by records skipped state.next n → ClassOf state.count k (answer_at d i)
  told k e = record { figures = figures; is = rw e tells }

  -- and a packet that is reordered by it has not arrived
  pub new_told : (k : Class) → k ≡ class_by records skipped state.next n → IfLate (λ (at : ℕ). has n (firsts (before d i)) ≡ false) k
  unfolding class_by
  new_told k q = rw q (go (eqb (get_or records n 0) 0) refl (leb state.next n))
    where
      go : (t : Bool) → eqb (get_or records n 0) 0 ≡ t → (u : Bool)
          → IfLate (λ (at : ℕ). has n (firsts (before d i)) ≡ false)
          (cond t (cond u (Class.InOrder (n - state.next)) (Class.Reordered (get_or skipped n 0))) (Class.Duplicate (get_or records n 0)))
      go false e u = tt
      go true e true = tt
      go true e false = has-firsts n (before d i) ∙ new-recorded (before d i) numbers records skipped state f n low high (eqb-true _ _ e)

  -- a packet that has not arrived and is below NextExp is reordered by it
  pub late-told : {P : Type 0} (k : Class) → k ≡ class_by records skipped state.next n → IfLate (λ (at : ℕ). P) k
      → has n (before d i) ≡ false → n < next_exp (firsts (before d i)) → P
  unfolding class_by
  late-told k q holds new behind =
      let late : k ≡ Class.Reordered (get_or skipped n 0) =
      q ∙ simp (
        eq-eqb (get_or records n 0) 0 (f.recorded.at n low high ∙ record-none n (before d i) new),
        lt-leb state.next n (omega (arith, f.next)),
      ) in
      rw late at holds

-- nothing is said of a class that is not that of a reordered packet
pub late-never : (holds : ℕ → Type 0) (k : Class) → ((at : ℕ) → k ≡ Class.Reordered at → ⊥) → IfLate holds k
late-never holds (Class.Duplicate first) n = tt
late-never holds (Class.InOrder jump) n = tt
late-never holds (Class.Reordered at) n = absurd (n at refl)

-- and its answer is not reordered
pub late-none : (count : ℕ) (k : Class) (a : Answer) → ClassOf count k a → ((at : ℕ) → k ≡ Class.Reordered at → ⊥)
    → is_reordered a ≡ false
late-none count (Class.Duplicate first) a t n = ap is_reordered t.is
late-none count (Class.InOrder jump) a t n = ap is_reordered t.is
late-none count (Class.Reordered at) a t n = absurd (n at refl)

-- of two facts about a reordered packet a third
pub late-both : {P Q R : ℕ → Type 0} (k : Class) → ((at : ℕ) → P at → Q at → R at) → IfLate P k → IfLate Q k → IfLate R k
late-both (Class.Duplicate first) f p q = tt
late-both (Class.InOrder jump) f p q = tt
late-both (Class.Reordered at) f p q = f at p q

-- record i + 1 is reordered, with its discontinuity at a position
record LateRecord (d : Decoded) (i at : ℕ) : Type 0 where
  place : FirstArrival
  position : place.position ≡ at
  is : discontinuity (firsts (before d i)) (arrival_at d i).number ≡ some place
  answer : answer_at d i ≡ reordered_answer (size_of d) (firsts (before d i)) (arrival_at d i) (some place)

-- the position of its discontinuity
late-found : (d : Decoded) (i at : ℕ) (h : LateRecord d i at)
    → (1 ≤ at) × (at ≤ length (firsts (before d i))) × ((get_or (firsts (before d i)) (at - 1) no_arrival).time ≡ h.place.time)
    × (byte_offset (size_of d) (take (at - 1) (firsts (before d i))) (arrival_at d i).number ≡ 0)
late-found d i at h =
    let f = found (size_of d) (arrival_at d i).number (firsts (before d i)) h.place h.is in
    rw (sym h.position) (f.low, f.high, f.time, f.alone)

-- the figures of a reordered packet's answer
same-figures : {f g : ReorderedFigures} → Answer.Reordered f ≡ Answer.Reordered g → f ≡ g
same-figures e = cc

-- a record whose answer is that of a reordered packet is such
late-classed : (d : Decoded) (layout : Layout) (i : ℕ) → HasRecord d layout i → (count at : ℕ) → count ≡ length (firsts (before d i))
    → ClassOf count (Class.Reordered at) (answer_at d i) → LateRecord d i at
unfolding is_in_order in_order_answer reordered_answer extent_from
late-classed d layout i h count at all c =
    go (has (arrival_at d i).number (before d i)) refl (leb (next_exp (firsts (before d i))) (arrival_at d i).number) refl
  where
    go : (t : Bool) → has (arrival_at d i).number (before d i) ≡ t → (u : Bool)
        → leb (next_exp (firsts (before d i))) (arrival_at d i).number ≡ u → LateRecord d i at
    go true e u q = absurd (true≢false (ap is_reordered (sym c.is ∙ answer-duplicate (size_of d) (before d i) (arrival_at d i) e)))
    go false e true q =
        absurd (true≢false (ap is_reordered (sym c.is ∙ answer-first (size_of d) (before d i) (arrival_at d i) e
        ∙ first-in-order (size_of d) (firsts (before d i)) (arrival_at d i) (leb-true _ _ q))))
    go false e false q =
        let k =
        reordered-discontinuity (arrival_at d i).number (h.file.numbers i h.inside).0 (firsts (before d i))
        (has-firsts (arrival_at d i).number (before d i) ∙ e) q in
        let f = found (size_of d) (arrival_at d i).number (firsts (before d i)) k.at k.is in
        let answer : answer_at d i ≡ reordered_answer (size_of d) (firsts (before d i)) (arrival_at d i) (some k.at) =
        answer-first (size_of d) (before d i) (arrival_at d i) e
        ∙ first-reordered (size_of d) (firsts (before d i)) (arrival_at d i) (leb-false _ _ q)
        ∙ ap (reordered_answer (size_of d) (firsts (before d i)) (arrival_at d i)) k.is in
        let extent = ap (λ (f : ReorderedFigures). f.extent) (same-figures (sym answer ∙ c.is)) in
        record { place = k.at; position = omega (arith, extent, all, f.low, f.high); is = k.is; answer = answer }

-- a first arrival among the first i arrivals is one of their records
module _ (d : Decoded) (layout : Layout) (i : ℕ) (h : FileLayout d layout) (most : i ≤ layout.arrivals) (p : ℕ)
    (inside : p < length (firsts (before d i))) where
  -- its packet has arrived
  arrived : has (get_or (firsts (before d i)) p no_arrival).number (before d i) ≡ true
  arrived = sym (has-firsts _ (before d i)) ∙ has-at no_arrival (firsts (before d i)) p inside

  -- its record is one of the first i
  first-record : (1 ≤ first_record (get_or (firsts (before d i)) p no_arrival).number (before d i))
      × (first_record (get_or (firsts (before d i)) p no_arrival).number (before d i) ≤ i)
  first-record = omega (arith, record-some _ (before d i) arrived, before-count d layout i h most)

  -- and the arrival of that record
  first-stands : arrival_at d (first_record (get_or (firsts (before d i)) p no_arrival).number (before d i) - 1)
      ≡ get_or (firsts (before d i)) p no_arrival
  first-stands =
      let r = first_record (get_or (firsts (before d i)) p no_arrival).number (before d i) - 1 in
      sym (get_or-take i (sample_arrivals d) r no_arrival (omega (arith, first-record))) ∙ first-at no_arrival (before d i) p inside

  -- its number is that of a packet
  first-number : (1 ≤ (get_or (firsts (before d i)) p no_arrival).number) × ((get_or (firsts (before d i)) p no_arrival).number ≤ layout.sent)
  first-number =
      let r = first_record (get_or (firsts (before d i)) p no_arrival).number (before d i) - 1 in
      let n = h.numbers r (omega (arith, first-record)) in
      omega (arith, n, ap (λ (a : Arrival). a.number) first-stands)

-- there are few first arrivals, and their numbers are those of packets
pub packets : (d : Decoded) (layout : Layout) (i : ℕ) → FileLayout d layout → (numbers : List ℕ) (count : ℕ)
    → NumberTable (firsts (before d i)) numbers count → i ≤ layout.arrivals → (count ≤ sent_most) × Packets numbers count layout.sent
packets d layout i h numbers count n most = (
  omega (arith, n.all, length-firsts (before d i), before-count d layout i h most, h.few),
  record {
    inside = λ p g. let low : p < length (firsts (before d i)) = omega (arith, n.all) in
        omega (arith, n.at p low, first-number d layout i h most p low);
  },
)

module _ (d : Decoded) (layout : Layout) (i at count : ℕ) (h : HasRecord d layout i)
    (class : ClassOf count (Class.Reordered at) (answer_at d i))
    (numbers records : List ℕ)
    (nums : NumberTable (firsts (before d i)) numbers count) (recs : RecordTable (before d i) records) where
  -- record i + 1 is reordered
  late : LateRecord d i at
  late = late-classed d layout i h count at nums.all class

  -- record i + 1 is one of the records
  most : i ≤ layout.arrivals
  most = omega (arith, h.inside)

  -- a discontinuity is at one of the positions
  pub late-place : (1 ≤ at) × (at ≤ count) × (count ≤ i)
  late-place =
      let f = late-found d i at late in
      omega (arith, f.0, f.1, nums.all, length-firsts (before d i), before-length d layout i h)

  -- its index in the list of first arrivals
  inside : at - 1 < length (firsts (before d i))
  inside = omega (arith, late-place, nums.all)

  -- its packet is one of the packets
  pub late-packet : (1 ≤ get_or numbers (at - 1) 0) × (get_or numbers (at - 1) 0 ≤ sent_most)
  late-packet =
      omega (arith, (packets d layout i h.file numbers count nums most).1.inside (at - 1) (omega (arith, late-place)), h.file.sent_few)

  -- the table of records has its record
  same-packet : get_or records (get_or numbers (at - 1) 0) 0 ≡ first_record (get_or (firsts (before d i)) (at - 1) no_arrival).number (before d i)
  same-packet =
      recs.at (get_or numbers (at - 1) 0) late-packet.0 late-packet.1
      ∙ ap (λ (s : ℕ). first_record s (before d i)) (nums.at (at - 1) inside)

  -- and its record is one before record i + 1
  pub late-record : (1 ≤ get_or records (get_or numbers (at - 1) 0) 0) × (get_or records (get_or numbers (at - 1) 0) 0 ≤ i)
  late-record = omega (arith, same-packet, first-record d layout i h.file most (at - 1) inside)

  -- which has the discontinuity's time
  late-time : (arrival_at d (get_or records (get_or numbers (at - 1) 0) 0 - 1)).time ≡ late.place.time
  late-time =
      ap (λ (r : ℕ). (arrival_at d (r - 1)).time) same-packet
      ∙ ap (λ (a : Arrival). a.time) (first-stands d layout i h.file most (at - 1) inside)
      ∙ (late-found d i at late).2

  -- the answer, from its parts
  pub late-answer : (past own offset largest : ℕ) (elapse : LateTime)
      → past ≡ (arrival_at d (get_or records (get_or numbers (at - 1) 0) 0 - 1)).time → own ≡ (arrival_at d i).time → elapse ≡ elapsed past own
      → offset ≡ byte_offset (size_of d) (firsts (before d i)) (arrival_at d i).number
      → largest ≡ largest_n (firsts (before d i)) (arrival_at d i).number
      → Answer.Reordered (record { position = count + 1; extent = count + 1 - at; late = elapse; offset = offset; largest = largest })
      ≡ answer_at d i
  unfolding reordered_answer extent_from late_from
  late-answer past own offset largest elapse p o e f g =
      sym (late.answer ∙ rw (late.position, ← nums.all, ← f, ← g, ← late-time, ← p, ← o, ← e))

  -- so the late time is that of the answer
  pub late-time-of : (past own : ℕ) (elapse : LateTime)
      → past ≡ (arrival_at d (get_or records (get_or numbers (at - 1) 0) 0 - 1)).time → own ≡ (arrival_at d i).time → elapse ≡ elapsed past own
      → (f : ReorderedFigures) → Answer.Reordered f ≡ answer_at d i → elapse ≡ f.late
  late-time-of past own elapse p o e f a =
      let whole = late-answer past own _ _ elapse p o e refl refl in
      sym (ap (λ (g : ReorderedFigures). g.late) (same-figures (a ∙ sym whole)))

  -- an answer whose late time is known to be that of the answer is whole with the byte offset and the largest n
  pub late-whole : (offset largest : ℕ) (elapse : LateTime) → ((f : ReorderedFigures) → Answer.Reordered f ≡ answer_at d i
      → elapse ≡ f.late)
      → offset ≡ byte_offset (size_of d) (firsts (before d i)) (arrival_at d i).number
      → largest ≡ largest_n (firsts (before d i)) (arrival_at d i).number
      → Answer.Reordered (record { position = count + 1; extent = count + 1 - at; late = elapse; offset = offset; largest = largest })
      ≡ answer_at d i
  late-whole offset largest elapse e f g =
      let whole = late-answer _ _ offset largest _ refl refl refl f g in
      ap (λ (l : LateTime). Answer.Reordered (record {
        position = count + 1;
        extent = count + 1 - at;
        late = l;
        offset = offset;
        largest = largest;
      })) (e _ whole) ∙ whole

  -- the byte offset is that of the answer
  pub late-offset : (offset : ℕ) → offset ≡ byte_offset (size_of d) (firsts (before d i)) (arrival_at d i).number
      → (f : ReorderedFigures) → Answer.Reordered f ≡ answer_at d i → offset ≡ f.offset
  late-offset offset e f a =
      let whole = late-answer _ _ offset _ _ refl refl refl e refl in
      sym (ap (λ (g : ReorderedFigures). g.offset) (same-figures (a ∙ sym whole)))

  -- over those before it the byte offset is 0, as none of them has a greater number
  pub late-alone : byte_offset (size_of d) (take (at - 1) (firsts (before d i))) (arrival_at d i).number ≡ 0
  late-alone = (late-found d i at late).3
