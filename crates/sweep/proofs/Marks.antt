-- The mark of a packet after the next arrival, and the values at the record of a jump. A packet below NextExp that has not arrived has a
-- discontinuity, which has a record (`skipping-jump`); a packet from NextExp on has none, and its mark is 0 (`mark-ahead`). A copy
-- changes no mark (`mark-copy`). A first arrival marks its own packet as arrived and is the discontinuity of the packets that it skips;
-- all other marks stay (`mark-more`, by cases: packet s is its own, has arrived, is below NextExp, or is skipped). The position of a
-- first arrival is its index among the first arrivals plus 1, and the list of positions has it at its record (`position_at`, by
-- `listed_at` of metrics). Last, `skipped_at` gives the values where one value was stored at consecutive indices. l are the
-- arrivals, a is the next one, s a packet, fs first arrivals, p an index among them or the arrival there, k what is known of a
-- discontinuity. Assumes nothing.
use mathlib.Core.Path.{◌≡◌, refl, sym, ap, ◌∙◌}
use mathlib.Core.Bool.{Bool, true, false, cond, ◌&&◌, true≢false, or-true}
use mathlib.Core.List.{List, [], ◌∷◌, ◌++◌, map-append}
use mathlib.Core.Option.{Option, none, some}
use Prim.Native.Nat.{ℕ, ◌+◌, ◌-◌, ◌≤◌, ◌<◌}
use native.Mathlib.Omega.{arith}
use lib.Dec.{eqb, leb, ltb}
use lib.ListN.{length, get_or, drop, replicate, length-replicate, get_or-replicate, length-append, length-map, get_or-append}
use lib.Seq.{get_or-append_seam, get_or-take, get_or-drop}
use borrow.Author.Tests.{eqb-false, eq-eqb, ne_eqb, leb-true, leb-false, lt-leb, ltb-true, ltb-false}
use Rattle.octets.specs.Memory.{splice}
use Rattle.octets.proofs.Memory.{splice-length, splice-take, splice-tail, splice-drop}
use Rattle.rfc4737.specs.declared.Arrival.{Arrival}
use Rattle.rfc4737.specs.Arrivals.{has, firsts, first_record}
use Rattle.rfc4737.specs.Order.{FirstArrival, next_exp, is_in_order}
use Rattle.rfc4737.specs.Extent.{discontinuity}
use Rattle.rfc4737.specs.Answer.{answer_to, answers, first_answer, in_order_answer, reordered_answer}
use Rattle.rfc4737.proofs.Arrivals.{has_more, has-firsts, firsts-duplicate, firsts-first, record-more}
use Rattle.rfc4737.proofs.Folds.{next_more, answer-first, first-in-order, first-reordered, answers-more, length-answers}
use Rattle.rfc4737.proofs.Jumps.{next_after-below, reordered-discontinuity}
use Rattle.rfc4737.proofs.Skipped.{SkippedAt, discontinuity-skipped}
use Rattle.metrics.proofs.TablesFollow.{discontinuity-stays, discontinuity-none, discontinuity-new, recorded_copy}
use Rattle.metrics.proofs.Records.{has-at, record-stays, listed_at}
use Rattle.metrics.proofs.CountsBySeen.{has-below}
use Rattle.sample.specs.Places.{no_arrival}
use Rattle.sweep.specs.Figures.{figures_of, positions_of}
use Rattle.sweep.specs.Private.{arrived_mark, record_of, mark_of}

-- a packet from NextExp on has not arrived
ahead-new : (s : ℕ) (l : List Arrival) → next_exp (firsts l) ≤ s → has s l ≡ false
ahead-new s l h = go (has s l) refl
  where
    go : (t : Bool) → has s l ≡ t → t ≡ false
    go false q = refl
    go true q = let k : s < next_exp (firsts l) = has-below s (firsts l) (has-firsts s l ∙ q) in absurd (omega arith)

-- at a packet that has not arrived stands the record of its discontinuity
mark-new : (l : List Arrival) (s : ℕ) → has s l ≡ false → mark_of l s ≡ record_of l (discontinuity (firsts l) s)
unfolding mark_of
mark-new l s new = simp new

-- at one that has arrived stands 4,097
pub mark-arrived : (l : List Arrival) (s : ℕ) → has s l ≡ true → mark_of l s ≡ arrived_mark
unfolding mark_of
mark-arrived l s e = simp e

-- one that is not yet expected has 0
pub mark-ahead : (l : List Arrival) (s : ℕ) → 1 ≤ s → next_exp (firsts l) ≤ s → mark_of l s ≡ 0
unfolding record_of
mark-ahead l s low h =
    let new : has s l ≡ false = ahead-new s l h in
    mark-new l s new ∙ ap (record_of l) (discontinuity-none (firsts l) s low (has-firsts s l ∙ new) h)

-- the discontinuity of a packet below NextExp that has not arrived is the jump that skipped it: where it stands among the first
-- arrivals, and its record is what stands at the packet
pub record SkippingJump (l : List Arrival) (s : ℕ) : Type 0 where
  pub place : FirstArrival
  pub is : discontinuity (firsts l) s ≡ some place
  pub low : 1 ≤ place.position
  pub high : place.position ≤ length (firsts l)
  pub stands : get_or (firsts l) (place.position - 1) no_arrival ≡ record { number = place.number; time = place.time }
  pub arrived : has place.number l ≡ true
  pub mark : mark_of l s ≡ first_record place.number l

-- where it stands
placed_at : (fs : List Arrival) (s : ℕ) (p : FirstArrival) → SkippedAt s fs p
    → (1 ≤ p.position) × (p.position ≤ length fs)
    × (get_or fs (p.position - 1) no_arrival ≡ record { number = p.number; time = p.time })
placed_at fs s p k =
    let e : length k.before + 1 ≡ p.position = ap (λ (p : FirstArrival). p.position) k.place in
    let n = ap length k.parts in
    let o = length-append k.before (k.arrival ∷ k.after) in
    let w : p.position - 1 ≡ length k.before = omega arith in (
      omega arith,
      omega (arith, n, o, e),
      rw (w, k.parts) (get_or-append_seam k.before k.arrival k.after no_arrival)
          ∙ ap (λ (p : FirstArrival). record { number = p.number; time = p.time }) k.place,
    )

pub skipping-jump : (l : List Arrival) (s : ℕ) → 1 ≤ s → has s l ≡ false → s < next_exp (firsts l) → SkippingJump l s
unfolding is_in_order record_of
skipping-jump l s low new h =
    let n = has-firsts s l ∙ new in
    let k = reordered-discontinuity s low (firsts l) n (lt-leb _ _ h) in
    let f = placed_at (firsts l) s k.at (discontinuity-skipped s low (firsts l) n k.at k.is) in
    record {
      place = k.at;
      is = k.is;
      low = f.0;
      high = f.1;
      stands = f.2;
      arrived = sym (has-firsts k.at.number l)
          ∙ ap (λ (n : ℕ). has n (firsts l)) (sym (ap (λ (a : Arrival). a.number) f.2))
          ∙ has-at no_arrival (firsts l) (k.at.position - 1) (omega (arith, f));
      mark = mark-new l s new ∙ ap (record_of l) k.is;
    }

-- ---- the next arrival

-- a copy changes nothing
pub mark-copy : (l : List Arrival) (a : Arrival) (s : ℕ) → has a.number l ≡ true → mark_of (l ++ (a ∷ [])) s ≡ mark_of l s
unfolding record_of
mark-copy l a s arrived = go (has s l) refl
  where
    kept : (o : Option FirstArrival) → record_of (l ++ (a ∷ [])) o ≡ record_of l o
    kept none = refl
    kept (some p) = recorded_copy l a arrived p.number

    go : (t : Bool) → has s l ≡ t → mark_of (l ++ (a ∷ [])) s ≡ mark_of l s
    go true e = mark-arrived (l ++ (a ∷ [])) s (has_more s l a ∙ rw e) ∙ sym (mark-arrived l s e)
    go false e =
        let other : a.number ≡ s → ⊥ = λ q. true≢false (sym arrived ∙ rw q e) in
        let new : has s (l ++ (a ∷ [])) ≡ false = has_more s l a ∙ rw (e, ne_eqb a.number s other) in
        mark-new (l ++ (a ∷ [])) s new ∙ ap (λ (fs : List Arrival). record_of (l ++ (a ∷ [])) (discontinuity fs s))
        (firsts-duplicate l a arrived) ∙ kept (discontinuity (firsts l) s) ∙ sym (mark-new l s e)

module _ (l : List Arrival) (a : Arrival) (new : has a.number l ≡ false) where
  -- what stands at packet s under a first arrival: at its own packet that it has arrived, at those that it skips its record
  pub mark-more : (s : ℕ) → 1 ≤ s
      → mark_of (l ++ (a ∷ [])) s
      ≡ cond (eqb a.number s) arrived_mark (cond (leb (next_exp (firsts l)) s && ltb s a.number) (length l + 1) (mark_of l s))
  unfolding record_of
  mark-more s low = go (eqb a.number s) refl
    where
      rest : (a.number ≡ s → ⊥) → (t : Bool) → has s l ≡ t → (u : Bool) → leb (next_exp (firsts l)) s ≡ u → (v : Bool)
          → ltb s a.number ≡ v
          → mark_of (l ++ (a ∷ [])) s ≡ cond (u && v) (length l + 1) (mark_of l s)
      rest other true e true q v r = absurd (true≢false (sym e ∙ ahead-new s l (leb-true _ _ q)))
      rest other true e false q v r = mark-arrived (l ++ (a ∷ [])) s (has_more s l a ∙ rw e) ∙ sym (mark-arrived l s e)
      rest other false e false q v r =
          let k = skipping-jump l s low e (leb-false _ _ q) in
          let new' : has s (l ++ (a ∷ [])) ≡ false = has_more s l a ∙ rw (e, ne_eqb a.number s other) in
          mark-new (l ++ (a ∷ [])) s new'
          ∙ ap (λ (fs : List Arrival). record_of (l ++ (a ∷ [])) (discontinuity fs s)) (firsts-first l a new)
          ∙ ap (record_of (l ++ (a ∷ []))) (discontinuity-stays (firsts l) a s k.place k.is)
          ∙ record-stays l a k.place.number k.arrived
          ∙ sym k.mark
      rest other false e true q true r =
          let new' : has s (l ++ (a ∷ [])) ≡ false = has_more s l a ∙ rw (e, ne_eqb a.number s other) in
          mark-new (l ++ (a ∷ [])) s new'
          ∙ ap (λ (fs : List Arrival). record_of (l ++ (a ∷ [])) (discontinuity fs s)) (firsts-first l a new)
          ∙ ap (record_of (l ++ (a ∷ []))) (discontinuity-new (firsts l) a s low (has-firsts s l ∙ e) (leb-true _ _ q) (ltb-true _ _ r))
          ∙ record-more a.number l a ∙ simp (new, eq-eqb a.number a.number refl)
      rest other false e true q false r =
          let behind : a.number ≤ s = ltb-false _ _ r in
          let past : a.number < s = omega (arith, other) in
          let ahead : next_exp (firsts (l ++ (a ∷ []))) ≤ s =
          rw (firsts-first l a new, next_more (firsts l) a) (next_after-below (next_exp (firsts l)) a.number s (leb-true _ _ q) past) in
          mark-ahead (l ++ (a ∷ [])) s low ahead ∙ sym (mark-ahead l s low (leb-true _ _ q))

      go : (t : Bool) → eqb a.number s ≡ t
          → mark_of (l ++ (a ∷ [])) s ≡ cond t arrived_mark (cond (leb (next_exp (firsts l)) s && ltb s a.number) (length l + 1)
          (mark_of l s))
      go true q = mark-arrived (l ++ (a ∷ [])) s (has_more s l a ∙ rw q (or-true (has s l)))
      go false q = rest (eqb-false _ _ q) (has s l) refl (leb (next_exp (firsts l)) s) refl (ltb s a.number) refl

-- ---- positions

-- the position of a first arrival
first-position : (size : ℕ → ℕ) (l : List Arrival) (a : Arrival) → has a.number l ≡ false
    → (figures_of (answer_to size l a)).position ≡ length (firsts l) + 1
unfolding figures_of in_order_answer reordered_answer
first-position size l a new = rw (answer-first size l a new) (go (leb (next_exp (firsts l)) a.number) refl)
  where
    go : (t : Bool) → leb (next_exp (firsts l)) a.number ≡ t → (figures_of (first_answer size (firsts l) a)).position ≡ length (firsts l) + 1
    go true q = rw (first-in-order size (firsts l) a (leb-true _ _ q))
    go false q = rw (first-reordered size (firsts l) a (leb-false _ _ q))

-- the positions after the next arrival
positions-more : (size : ℕ → ℕ) (l : List Arrival) (a : Arrival)
    → positions_of (answers size (l ++ (a ∷ []))) ≡ positions_of (answers size l) ++ ((figures_of (answer_to size l a)).position ∷ [])
positions-more size l a = rw (answers-more size l a) (map-append _ (answers size l) (answer_to size l a ∷ []))

-- at the record of the first arrival at place p stands the position p + 1
pub position_at : (size : ℕ → ℕ) (d : Arrival) (l : List Arrival) (p : ℕ) → p < length (firsts l)
    → get_or (positions_of (answers size l)) (first_record (get_or (firsts l) p d).number l - 1) 0 ≡ p + 1
position_at size d =
    listed_at d 0 (λ l. positions_of (answers size l)) (λ l a. (figures_of (answer_to size l a)).position) (λ p a. p + 1)
    (λ l. length-map (answers size l) _ ∙ length-answers size l) (positions-more size) (first-position size)

-- ---- skipping: one value is put at the places from `from` to before `to`

module _ (from to value : ℕ) (old : List ℕ) (up : from ≤ to) (room : to ≤ length old) where
  -- the values that are put
  abbrev run : List ℕ
  run = replicate (to - from) value

  run_length : length run ≡ to - from
  run_length = length-replicate {A = ℕ} (to - from) value

  -- the length is as it was
  pub skipped-length : length (splice from run old) ≡ length old
  skipped-length = splice-length from run old (omega (arith, run_length))

  -- and what stands from a later place on
  pub skipped-past : (k : ℕ) → to ≤ k → drop k (splice from run old) ≡ drop k old
  skipped-past k h = splice-drop from run old k (omega (arith, run_length)) (omega arith)

  -- and at any place stands the value or what stood there
  pub skipped_at : (k : ℕ) → get_or (splice from run old) k 0 ≡ cond (leb from k && ltb k to) value (get_or old k 0)
  skipped_at k = go (leb from k) refl (ltb k to) refl
    where
      from_place : (n : ℕ) (l : List ℕ) → n ≤ k → get_or (drop n l) (k - n) 0 ≡ get_or l k 0
      from_place n l h = let z : n + (k - n) ≡ k = omega arith in rw z at (get_or-drop n l (k - n) 0)

      go : (t : Bool) → leb from k ≡ t → (u : Bool) → ltb k to ≡ u → get_or (splice from run old) k 0 ≡ cond (t && u) value (get_or old k 0)
      go true e true q =
          let l : from ≤ k = leb-true _ _ e in
          let h : k < to = ltb-true _ _ q in
          sym (from_place from (splice from run old) l) ∙ ap (λ (m : List ℕ). get_or m (k - from) 0) (splice-tail from run old (omega arith))
          ∙ get_or-append run _ 0 (k - from) (omega (arith, run_length)) ∙ get_or-replicate (to - from) (k - from) value 0 (omega arith)
      go true e false q =
          let h : to ≤ k = ltb-false _ _ q in
          sym (from_place to (splice from run old) h) ∙ ap (λ (m : List ℕ). get_or m (k - to) 0) (skipped-past to (omega arith))
          ∙ from_place to old h
      go false e u q =
          let h : k < from = leb-false _ _ e in
          sym (get_or-take from (splice from run old) k 0 h) ∙ ap (λ (m : List ℕ). get_or m k 0)
          (splice-take from run old from (omega arith) (omega arith)) ∙ get_or-take from old k 0 h
