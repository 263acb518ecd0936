-- The needs of a sample, answer by answer. A need is counted at the index of the first size that is enough for it (`step_past`), so the
-- sum of the counts up to a size grows by 1 exactly if the size is enough (`counted-in`, `counted-out`). So a pass finds counts and
-- greatest need record by record (`after-duplicate`, `after_first`); no count exceeds the number of answers (`needs-few`). The summed
-- counts are those of the definition (`steps-made`). Last, the need of a record by its class, and that the tree can be filled.
-- Here m is the measure, the sizes are low + j * 2^shift, l some answers, a the next one and k its class. Assumes nothing.
use mathlib.Core.Path.{◌≡◌, refl, sym, ap, ◌∙◌}
use mathlib.Core.Bool.{Bool, true, false, cond, not}
use mathlib.Core.List.{List, [], ◌∷◌, ◌++◌, map}
use Prim.Native.Nat.{ℕ, zero, suc, ◌+◌, ◌-◌, ◌*◌, ◌/◌, ◌^◌, ◌≤◌, ◌<◌, max}
use native.Mathlib.Nat.{suc-mul, div-lt_iff_lt-mul, div-eq_of_lt, lt_of_lt_of_le, pow-le-pow_right, zero-lt-suc}
use native.Mathlib.Omega.{arith}
use lib.Dec.{eqb, leb, ltb}
use lib.ListN.{length, get_or, set, replicate, length-set}
use lib.Seq.{get_or-set_same, get_or-set_other, ext_get_or}
use lib.Pow.{pow_pos}
use borrow.Author.Tests.{le-ltb, le-leb, lt-leb, leb-true, leb-false, ltb-true, ltb-false, eqb-true, eqb-false}
use Rattle.rfc4737.specs.declared.Answer.{Answer}
use Rattle.rfc4737.specs.Arrivals.{count}
use Rattle.rfc4737.specs.Runs.{is_duplicate, arrived}
use Rattle.rfc4737.proofs.Needs.{count-few, need-more, accommodated-more}
use Rattle.rfc4737.proofs.Folds.{arrived-more, length-answers}
use Rattle.sample.specs.declared.Layout.{Layout}
use Rattle.sample.specs.Decode.{Decoded, decoded_refusal}
use Rattle.metrics.specs.Figures.{step_count, sizes_from, sample_steps}
use Rattle.metrics.specs.Records.{before, answer_at, answers_to, FileLayout, HasRecord}
use Rattle.metrics.specs.Sample.{size_of, sample_arrivals, answers_of}
use Rattle.rfc4737.specs.Judge.{arrivals_most}
use Rattle.metrics.proofs.TablesFollow.{arrivals-laid}
use Rattle.rfc4737.specs.Needs.{waiting_time, needed_for, greatest_need, accommodates, accommodated}
use Rattle.metrics.specs.Private.Needs.{NeedInput, needs_with, count_to, Counted, NeedsOf}
use Rattle.metrics.specs.Private.Engine.{FillInput}
use Rattle.metrics.specs.Private.Tables.{ClassOf}
use Rattle.metrics.specs.declared.engine.byte_offset.PairTree.{PairTree}
use Rattle.metrics.specs.declared.engine.seen.Tables.{Tables}
use Rattle.metrics.specs.declared.engine.kind.Class.{Class}
use Rattle.metrics.specs.declared.figures.needs.Needs.{Needs}
use Rattle.metrics.specs.declared.SampleSteps.{SampleSteps}
use Rattle.rfc4737.specs.declared.Arrival.{Arrival}
use Rattle.rfc4737.specs.declared.DuplicateFigures.{DuplicateFigures}
use Rattle.rfc4737.proofs.Lists.{zeros}
use Rattle.rfc4737.specs.declared.LateTime.{LateTime}
use Rattle.rfc4737.specs.declared.ReorderedFigures.{ReorderedFigures}
use Rattle.rfc4737.specs.Arrivals.{firsts}
use Rattle.metrics.proofs.AnswersByClass.{packets}
use Rattle.rfc4737.specs.declared.Measure.{Measure}
use Rattle.metrics.proofs.OneArrivalMore.{answers_next}

-- ---- counts by size

module _ (counts : List ℕ) (at : ℕ) (inside : at < length counts) where
  -- adding 1 at index `at` leaves the sums below it
  one_below : (n : ℕ) → n ≤ at → count_to (set counts at (get_or counts at 0 + 1)) n ≡ count_to counts n
  unfolding count_to
  one_below zero h = refl
  one_below (suc n) h =
      let e = one_below n (omega arith) in
      let g = get_or-set_other counts at n (get_or counts at 0 + 1) 0 (λ (e : n ≡ at). omega (arith, e)) in
      rw (e, g) refl

  -- adds 1 to the first sum that includes it
  one-here : (n : ℕ) → n ≡ at → count_to (set counts at (get_or counts at 0 + 1)) (suc n) ≡ count_to counts (suc n) + 1
  unfolding count_to
  one-here n here =
      let e = one_below n (omega (arith, here)) in
      let g : get_or (set counts at (get_or counts at 0 + 1)) n 0 ≡ get_or counts n 0 + 1 =
      rw here (get_or-set_same counts at (get_or counts at 0 + 1) 0 inside) in
      omega (arith, e, g)

  -- and to all sums above
  one-above : (n : ℕ) → at ≤ n → count_to (set counts at (get_or counts at 0 + 1)) (suc n) ≡ count_to counts (suc n) + 1
  unfolding count_to
  one-above zero h = one-here zero (omega arith)
  one-above (suc n) h = go (ltb at (suc n)) refl (one-above n)
    where
      go : (t : Bool) → ltb at (suc n) ≡ t → (at ≤ n → count_to (set counts at (get_or counts at 0 + 1)) (suc n) ≡ count_to counts (suc n) + 1)
          → count_to (set counts at (get_or counts at 0 + 1)) (suc (suc n)) ≡ count_to counts (suc (suc n)) + 1
      go false q more = one-here (suc n) (omega (arith, ltb-false at (suc n) q))
      go true q more =
          let e = more (omega (arith, ltb-true at (suc n) q)) in
          let g = get_or-set_other counts at (suc n) (get_or counts at 0 + 1) 0 (λ (e : suc n ≡ at). omega (arith, e, ltb-true at (suc n) q)) in
          omega (arith, e, g)

  one_more : (n : ℕ) (t : Bool) → leb at n ≡ t
      → count_to (set counts at (get_or counts at 0 + 1)) (suc n) ≡ cond t (count_to counts (suc n) + 1) (count_to counts (suc n))
  one_more n true e = one-above n (leb-true at n e)
  one_more n false e = one_below (suc n) (omega (arith, leb-false at n e))

module _ (low shift need : ℕ) (counts : List ℕ) (places : length counts ≡ step_count) (step : ℕ)
    (is : (j : ℕ) → leb step j ≡ leb need (low + j * 2 ^ shift)) where
  -- a need is counted at the index of the first size that is enough for it
  pub counted-in : step < step_count → Counted low shift need counts (set counts step (get_or counts step 0 + 1))
  counted-in h =
      record {
        places = length-set counts step (get_or counts step 0 + 1) ∙ places;
        at = λ j few. one_more counts step (omega (arith, places)) j (leb need (low + j * 2 ^ shift)) (is j);
      }

  -- a need above all sizes is not counted
  pub counted-out : step_count ≤ step → Counted low shift need counts counts
  counted-out h =
      record {
        places = places;
        at = λ j few. let e : leb need (low + j * 2 ^ shift) ≡ false = sym (is j)
            ∙ lt-leb step j (omega (arith, few)) in rw e refl;
      }

-- the first size past a need over `low`
pub step_past : (low shift need over : ℕ) → low + suc over ≡ need → (j : ℕ) → leb (over / 2 ^ shift + 1) j ≡ leb need (low + j * 2 ^ shift)
step_past low shift need over e j = go (leb need (low + j * 2 ^ shift)) refl
  where
    go : (t : Bool) → leb need (low + j * 2 ^ shift) ≡ t → leb (over / 2 ^ shift + 1) j ≡ t
    go true q =
        let h : over < j * 2 ^ shift = omega (arith, e, leb-true need (low + j * 2 ^ shift) q) in
        let g : over / 2 ^ shift < j = (div-lt_iff_lt-mul (pow_pos shift)).1 h in
        le-leb (over / 2 ^ shift + 1) j (omega (arith, g))
    go false q = le-false (ltb (over / 2 ^ shift) j) refl
      where
        le-false : (t : Bool) → ltb (over / 2 ^ shift) j ≡ t → leb (over / 2 ^ shift + 1) j ≡ false
        le-false true u =
            let g : over < j * 2 ^ shift = (div-lt_iff_lt-mul (pow_pos shift)).0 (ltb-true (over / 2 ^ shift) j u) in
            absurd (omega (arith, e, g, leb-false need (low + j * 2 ^ shift) q))
        le-false false u = lt-leb (over / 2 ^ shift + 1) j (omega (arith, ltb-false (over / 2 ^ shift) j u))

-- with a shift of 64 or more the next size is past every need
pub step-far : (low shift need over : ℕ) → low + suc over ≡ need → over < 2 ^ 64 → 64 ≤ shift → (j : ℕ)
    → leb 1 j ≡ leb need (low + j * 2 ^ shift)
step-far low shift need over e few h j =
    let small : over / 2 ^ shift ≡ 0 = div-eq_of_lt (lt_of_lt_of_le few (pow-le-pow_right (zero-lt-suc 1) h)) in
    ap (λ (n : ℕ). leb (n + 1) j) (sym small) ∙ step_past low shift need over e j

-- ---- sums in place

-- before j each count is the sum up to it, from j on all is as it was, and `sum` is that of the first j
pub record SummedTo (old new : List ℕ) (sum j : ℕ) : Type 0 where
  pub places : length new ≡ step_count
  pub done : (k : ℕ) → k < j → get_or new k 0 ≡ count_to old (suc k)
  pub left : (k : ℕ) → j ≤ k → get_or new k 0 ≡ get_or old k 0
  pub total : sum ≡ count_to old j

pub summed-start : (old : List ℕ) → length old ≡ step_count → SummedTo old old 0 0
unfolding count_to
summed-start old p = record { places = p; done = λ k h. absurd (omega arith); left = λ k h. refl; total = refl }

module _ (old new : List ℕ) (sum j : ℕ) (s : SummedTo old new sum j) (few : j < step_count) where
  -- the sum with the next count
  pub summed-sum : sum + get_or new j 0 ≡ count_to old (suc j)
  unfolding count_to
  summed-sum = omega (arith, s.total, s.left j (omega arith))

  pub summed-next : SummedTo old (set new j (sum + get_or new j 0)) (sum + get_or new j 0) (j + 1)
  summed-next =
      record {
        places = length-set new j (sum + get_or new j 0) ∙ s.places;
        done = λ k h. go k h (eqb k j) refl;
        left = λ k h. get_or-set_other new j k (sum + get_or new j 0) 0 (λ (e : k ≡ j). omega (arith, e, h)) ∙ s.left k (omega (arith, h));
        total = summed-sum ∙ ap (count_to old) (omega arith);
      }
    where
      go : (k : ℕ) → k < j + 1 → (t : Bool) → eqb k j ≡ t → get_or (set new j (sum + get_or new j 0)) k 0 ≡ count_to old (suc k)
      go k h true q =
          let e = eqb-true k j q in
          rw e (get_or-set_same new j (sum + get_or new j 0) 0 (omega (arith, s.places)) ∙ summed-sum)
      go k h false q =
          let n = eqb-false k j q in
          get_or-set_other new j k (sum + get_or new j 0) 0 n ∙ s.done k (omega (arith, h, n))

-- ---- the next answer

-- the greater of two numbers
max-cond : (a b : ℕ) → max a b ≡ cond (ltb a b) b a
max-cond a b = go (ltb a b) refl
  where
    go : (t : Bool) → ltb a b ≡ t → max a b ≡ cond t b a
    go true e = omega (arith, ltb-true a b e)
    go false e = omega (arith, ltb-false a b e)

-- a duplicate leaves the greatest need
greatest-same : (m : Measure) (l : List Answer) (a : Answer) → needed_for m a ≡ 0 → greatest_need m (l ++ (a ∷ [])) ≡ greatest_need m l
greatest-same m l a z = need-more m l a ∙ rw (z, le-ltb (greatest_need m l) 0 (omega arith)) refl

module _ (m : Measure) (low shift : ℕ) (l : List Answer) (needs : Needs) (counts : List ℕ) (count : ℕ) where
  pub after-duplicate : (first : ℕ) (a : Answer) → ClassOf count (Class.Duplicate first) a → NeedsOf m low shift l needs counts
      → NeedsOf m low shift (l ++ (a ∷ [])) needs counts
  after-duplicate first a k h = rw k.is (go (record { first = first }))
    where
      go : (d : DuplicateFigures) → NeedsOf m low shift (l ++ (Answer.Duplicate d ∷ [])) needs counts
      go d =
          let a = Answer.Duplicate d in
          record {
            many = h.many ∙ sym (arrived-more l a);
            most = h.most ∙ sym (greatest-same m l a refl);
            places = h.places;
            at = λ j few. h.at j few ∙ sym (accommodated-more m (low + j * 2 ^ shift) l a);
          }

  -- a first arrival
  after_first : (need : ℕ) (a : Answer) → is_duplicate a ≡ false → need ≡ needed_for m a → (new : List ℕ) → Counted low shift need counts new
      → NeedsOf m low shift l needs counts → NeedsOf m low shift (l ++ (a ∷ [])) (needs_with needs need) new
  unfolding needs_with
  after_first need a first e new c h =
      record {
        many = rw h.many (sym (rw (arrived-more l a, first) refl));
        most = rw (h.most, e, max-cond) (sym (need-more m l a));
        places = c.places;
        at = λ j few.
            let same : accommodates m (low + j * 2 ^ shift) a ≡ leb need (low + j * 2 ^ shift) = rw (first, e) refl in
            c.at j few ∙ rw (h.at j few, accommodated-more m (low + j * 2 ^ shift) l a, same) refl;
      }

  pub after-in-order : (jump need : ℕ) (a : Answer) → ClassOf count (Class.InOrder jump) a → need ≡ needed_for m a → (new : List ℕ)
      → Counted low shift need counts new
      → NeedsOf m low shift l needs counts → NeedsOf m low shift (l ++ (a ∷ [])) (needs_with needs need) new
  after-in-order jump need a k = after_first need a (rw k.is refl)

  pub after-reordered : (at need : ℕ) (a : Answer) → ClassOf count (Class.Reordered at) a → need ≡ needed_for m a → (new : List ℕ)
      → Counted low shift need counts new
      → NeedsOf m low shift l needs counts → NeedsOf m low shift (l ++ (a ∷ [])) (needs_with needs need) new
  after-reordered at need a k = after_first need a (rw k.is refl)

-- ---- bounds

-- no count exceeds the number of answers
pub needs-few : (m : Measure) (low shift : ℕ) (l : List Answer) (needs : Needs) (counts : List ℕ) → NeedsOf m low shift l needs counts
    → (needs.arrived ≤ length l) × ((j : ℕ) → j < step_count → count_to counts (suc j) ≤ length l)
unfolding arrived accommodated
needs-few m low shift l needs counts h = (
  omega (arith, h.many, count-few (λ (a : Answer). not (is_duplicate a)) l),
  λ j few. omega (arith, h.at j few, count-few (accommodates m (low + j * 2 ^ shift)) l),
)

-- a count is at most the sum up to it
pub count-le : (counts : List ℕ) (j : ℕ) → get_or counts j 0 ≤ count_to counts (suc j)
unfolding count_to
count-le counts j = omega arith

-- the first count is what a buffer of the first size accommodates
pub first_count : (m : Measure) (low shift : ℕ) (l : List Answer) (needs : Needs) (counts : List ℕ) → NeedsOf m low shift l needs counts
    → get_or counts 0 0 ≡ accommodated m low l
unfolding count_to
first_count m low shift l needs counts h =
    let same : low + 0 * 2 ^ shift ≡ low = omega arith in
    let e = h.at 0 (omega arith) in
    omega (arith, e) ∙ ap (λ (size : ℕ). accommodated m size l) same

-- no sum of a whole sample exceeds the greatest number of arrivals
pub steps-few : (d : Decoded) (layout : Layout) → FileLayout d layout → (m : Measure) (low shift : ℕ) (needs : Needs) (counts : List ℕ)
    → NeedsOf m low shift (answers_of d) needs counts → (j : ℕ) → j < step_count → count_to counts (suc j) ≤ arrivals_most
steps-few d layout h m low shift needs counts n j few =
    omega (
      arith,
      (needs-few m low shift (answers_of d) needs counts n).1 j few,
      length-answers (size_of d) (sample_arrivals d),
      arrivals-laid d layout h,
      h.few,
    )

-- the needs of no answers
none-counted : (n k : ℕ) → count_to (replicate n 0) k ≡ 0
unfolding count_to
none-counted n zero = refl
none-counted n (suc k) = rw (none-counted n k, zeros n k) refl

pub needs-none : (m : Measure) (low shift : ℕ) → NeedsOf m low shift [] (record { arrived = 0; greatest = 0 }) (replicate step_count 0)
unfolding arrived accommodated count greatest_need Rattle.rfc4737.specs.Needs.greatest
needs-none m low shift = record { many = refl; most = refl; places = refl; at = λ j few. none-counted step_count (suc j) }

-- the needs after record i + 1
pub needs-next : (m : Measure) (low shift : ℕ) (d : Decoded) (layout : Layout) (i : ℕ) → HasRecord d layout i
    → (needs : Needs) (counts : List ℕ)
    → NeedsOf m low shift (answers_to d i ++ (answer_at d i ∷ [])) needs counts → NeedsOf m low shift (answers_to d (i + 1)) needs counts
needs-next m low shift d layout i h needs counts n = rw (answers_next d layout i h) n

-- ---- the counts of several sizes

module _ (f : ℕ → ℕ) (step : ℕ) where
  length-sizes : (n low : ℕ) → length (map f (sizes_from low step n)) ≡ n
  unfolding sizes_from
  length-sizes zero low = refl
  length-sizes (suc n) low = ap suc (length-sizes n (low + step))

  at_size : (n low j : ℕ) → j < n → get_or (map f (sizes_from low step n)) j 0 ≡ f (low + j * step)
  unfolding sizes_from
  at_size zero low j h = absurd (omega arith)
  at_size (suc n) low zero h = ap f (omega arith)
  at_size (suc n) low (suc j) h =
      let e : low + step + j * step ≡ low + suc j * step = omega (arith, suc-mul j step) in
      at_size n (low + step) j (omega arith) ∙ ap f e

-- counts that are right one by one are those of the definition
pub steps-made : (m : Measure) (low shift : ℕ) (l : List Answer) (counts : List ℕ) → length counts ≡ step_count
    → ((j : ℕ) → j < step_count → get_or counts j 0 ≡ accommodated m (low + j * 2 ^ shift) l)
    → counts ≡ map (λ (size : ℕ). accommodated m size l) (sizes_from low (2 ^ shift) step_count)
steps-made m low shift l counts places at =
    let f : ℕ → ℕ = λ size. accommodated m size l in
    ext_get_or 0 counts (map f (sizes_from low (2 ^ shift) step_count)) (places ∙ sym (length-sizes f (2 ^ shift) step_count low))
    (λ j h. at j (omega (arith, h, places)) ∙ sym (at_size f (2 ^ shift) step_count low j (omega (arith, h, places))))

-- each part of the definition
module _ (d : Decoded) (m : Measure) (low shift : ℕ) (r : SampleSteps) (is : r ≡ sample_steps d m low shift) where
  pub steps-refusal : r.refusal ≡ decoded_refusal d
  unfolding sample_steps
  steps-refusal = ap (λ (s : SampleSteps). s.refusal) is

  pub steps-arrived : r.arrived ≡ arrived (answers_of d)
  unfolding sample_steps
  steps-arrived = ap (λ (s : SampleSteps). s.arrived) is

  pub steps-greatest : r.greatest ≡ greatest_need m (answers_of d)
  unfolding sample_steps
  steps-greatest = ap (λ (s : SampleSteps). s.greatest) is

  pub steps-many : length r.counts ≡ step_count
  unfolding sample_steps
  steps-many =
      ap (λ (s : SampleSteps). length s.counts) is
      ∙ length-sizes (λ (size : ℕ). accommodated m size (answers_of d)) (2 ^ shift) step_count low

  pub steps-count : (j : ℕ) → j < step_count → get_or r.counts j 0 ≡ accommodated m (low + j * 2 ^ shift) (answers_of d)
  unfolding sample_steps
  steps-count j few =
      ap (λ (s : SampleSteps). get_or s.counts j 0) is
      ∙ at_size (λ (size : ℕ). accommodated m size (answers_of d)) (2 ^ shift) step_count low j few

-- ---- the need of a record, by its class after `count` first arrivals

-- a record that is not reordered needs nothing
pub need-none : (m : Measure) (count : ℕ) (k : Class) (a : Answer) → ClassOf count k a → ((at : ℕ) → k ≡ Class.Reordered at → ⊥)
    → 0 ≡ needed_for m a
need-none m count (Class.Duplicate first) a t n = rw t.is refl
need-none m count (Class.InOrder jump) a t n = rw t.is refl
need-none m count (Class.Reordered at) a t n = absurd (n at refl)

module _ (count at : ℕ) (a : Answer) (k : ClassOf count (Class.Reordered at) a) where
  pub need-packets : count + 1 - at ≡ needed_for Measure.Packets a
  need-packets = rw k.is refl

  pub need-octets : (offset : ℕ) → ((f : ReorderedFigures) → Answer.Reordered f ≡ a → offset ≡ f.offset)
      → offset ≡ needed_for Measure.Octets a
  need-octets offset e = e _ (sym k.is) ∙ rw k.is refl

  pub need-time : (late : LateTime) (wait : ℕ) → ((f : ReorderedFigures) → Answer.Reordered f ≡ a → late ≡ f.late)
      → wait ≡ waiting_time late → wait ≡ needed_for Measure.Time a
  need-time late wait e w = w ∙ ap waiting_time (e _ (sym k.is)) ∙ rw k.is refl

-- ---- the tree

-- the tree can be filled where a need is asked for
pub need-filling : (d : Decoded) (layout : Layout) (i : ℕ) (arrival : Arrival) (tables : Tables) (tree : PairTree) (count : ℕ) (k : Class)
    → NeedInput d layout i arrival tables tree count k → FillInput d layout tables.numbers tree count
need-filling d layout i arrival tables tree count k p =
    let q = packets d layout i p.there.file tables.numbers count p.numbered (omega (arith, p.there.inside)) in
    record { few = q.0; packets = q.1; fs = firsts (before d i); numbered = p.numbered; totalled = p.totalled }
