-- The answers of the calls that ask for a record or for n. A call is refused with the file's own refusal, or if the number asked for is
-- outside its range. Then it finds nothing: a refused file has no arrivals, an accepted one no such record, and a degree outside its
-- range is taken over no answers. Else `each` has at index i the value of f for element i and the i before it (`each-after-at`, by
-- induction over the list). So `answer_at` is the answer for the record asked for (`answer-known`), and its gap is that of its position
-- (`gap-known`). Of a position that is found, 0 for none: at 0 there is no gap (`gap-copy`); else it is at most L, since more arrivals
-- have no fewer first arrivals (`firsts-grow`, `position-le`), and the gap is that of this position (`gap-placed`).
-- Here d is the decoded file, i the index of a record from 0 and asked its number from 1, n that of a degree, r the refusal found, e that
-- it is the one that applies, z that it is 0, l a list with an element for each record, and p a position. Assumes nothing.
use Rattle.std.specs.Prelude.{None}
use mathlib.Core.Path.{◌≡◌, refl, sym, ap, ap₂, ◌∙◌}
use mathlib.Core.Bool.{Bool, true, false, cond}
use mathlib.Core.List.{List, [], ◌∷◌, ◌++◌, append-nil, append_assoc}
use mathlib.Core.Option.{none, some, some-ne-none}
use Prim.Native.Nat.{ℕ, zero, suc, ◌+◌, ◌-◌, ◌≤◌, ◌<◌}
use native.Mathlib.Omega.{arith}
use lib.Dec.{leb}
use lib.ListN.{length, take, drop, get_or, take-append-drop, length-append, get_or-eq_default, get_or-map, length-map}
use borrow.Author.Tests.{leb-true, leb-false}
use Rattle.rfc4737.specs.declared.Arrival.{Arrival}
use Rattle.rfc4737.specs.declared.Answer.{Answer}
use Rattle.rfc4737.specs.Refusals.{refusal_if, outside, asked_outside}
use Rattle.rfc4737.specs.Arrivals.{count, has, with_arrival, firsts, each, each_after}
use Rattle.rfc4737.specs.Order.{is_in_order}
use Rattle.rfc4737.specs.Extent.{discontinuity}
use Rattle.rfc4737.specs.Answer.{in_order_answer, reordered_answer, first_answer, answer_to, answers}
use Rattle.rfc4737.specs.Runs.{arrived}
use Rattle.rfc4737.specs.Gaps.{Gap, position_of, gap_of, gaps}
use Rattle.rfc4737.specs.Ratios.{n_reordered}
use Rattle.rfc4737.proofs.Due.{first-none, first_one, case-none, between, not-outside}
use Rattle.rfc4737.proofs.Arrivals.{firsts_more, with-duplicate, with_first, firsts-first, length-firsts}
use Rattle.rfc4737.proofs.Folds.{answer-duplicate, answer-first, arrived-answers, length-answers}
use Rattle.rfc4737.specs.Judge.{sent_most}
use Rattle.sample.specs.declared.Layout.{Layout}
use Rattle.sample.specs.Decode.{Decoded, refused, accepted, decoded_refusal}
use Rattle.metrics.specs.Sample.{size_of, sample_arrivals, answers_of}
use Rattle.sample.specs.Places.{no_arrival}
use Rattle.metrics.specs.Records.{arrival_at, before, answer_at, FileLayout, HasRecord}
use Rattle.metrics.specs.Figures.{at_record, asked_refusal, record_refusal, degree_answers, record_answer, record_gap, degree_counts, degree_most}
use Rattle.metrics.specs.declared.RecordAnswer.{RecordAnswer}
use Rattle.metrics.specs.declared.RecordGap.{RecordGap}
use Rattle.metrics.specs.declared.DegreeCounts.{DegreeCounts}
use Rattle.metrics.proofs.TablesFollow.{arrivals-laid, before_more}

-- ---- refusals

-- no refusal: the file has none of its own, and what is asked for is in its range
asked-inside : (d : Decoded) (low high asked : ℕ) → asked_refusal d low high asked ≡ 0 → outside low high asked ≡ false
asked-inside d low high asked e =
    case-none (outside low high asked) asked_outside (omega arith)
    (sym (first_one _) ∙ (first-none (decoded_refusal d) (refusal_if (outside low high asked) asked_outside ∷ []) e).1)

-- a call that is not refused asks for a number in its range
pub asked-within : (d : Decoded) (low high asked : ℕ) → asked_refusal d low high asked ≡ 0 → (low ≤ asked) × (asked ≤ high)
asked-within d low high asked e = between low high asked (asked-inside d low high asked e)

-- a call that is refused asks for no record
asked-outside : (d : Decoded) (asked : ℕ) → (record_refusal d asked ≡ 0 → ⊥) → 1 ≤ asked → asked ≤ length (sample_arrivals d) → ⊥
asked-outside (refused r) asked h low high = omega arith
asked-outside (accepted s) asked h low high = h (rw (not-outside 1 (length (sample_arrivals (accepted s))) asked low high))

-- where a degree is refused there are no answers
degree-refused : (d : Decoded) (n : ℕ) → (asked_refusal d 1 degree_most n ≡ 0 → ⊥) → degree_answers d n ≡ []
unfolding answers each each_after
degree-refused (refused r) n h = go (outside 1 degree_most n)
  where
    go : (b : Bool) → cond b [] (answers_of (refused r)) ≡ []
    go true = refl
    go false = refl
degree-refused (accepted s) n h = go (outside 1 degree_most n) refl
  where
    go : (b : Bool) → outside 1 degree_most n ≡ b → cond b [] (answers_of (accepted s)) ≡ []
    go true e = refl
    go false e = absurd (h (rw e))

-- where it is not, all
degree-accepted : (d : Decoded) (n : ℕ) → asked_refusal d 1 degree_most n ≡ 0 → degree_answers d n ≡ answers_of d
degree-accepted d n e = rw (asked-inside d 1 degree_most n e)

-- ---- the element at a record

module _ {A : Type 0} (other : A) (l : List A) where
  -- where there is no record, the element is `other`
  at-outside : (asked : ℕ) → (1 ≤ asked → asked ≤ length l → ⊥) → at_record other l asked ≡ other
  unfolding at_record
  at-outside zero h = refl
  at-outside (suc i) h = get_or-eq_default l other (over (leb (length l) i) refl)
    where
      over : (t : Bool) → leb (length l) i ≡ t → length l ≤ i
      over true e = leb-true (length l) i e
      over false e = absurd (h (omega arith) (omega (arith, leb-false (length l) i e)))

  -- at a record, its element
  pub at-inside : (asked : ℕ) → 1 ≤ asked → at_record other l asked ≡ get_or l (asked - 1) other
  unfolding at_record
  at-inside zero h = absurd (omega arith)
  at-inside (suc i) h = let e : suc i - 1 ≡ i = omega arith in rw e

-- f of the element at an index, with those before it
each-after-at : {A B : Type 0} (f : List A → A → B) (a₀ : A) (b₀ : B) (before l : List A) (i : ℕ) → i < length l
    → get_or (each_after f before l) i b₀ ≡ f (before ++ take i l) (get_or l i a₀)
unfolding each_after
each-after-at f a₀ b₀ before [] i h = absurd (omega arith)
each-after-at f a₀ b₀ before (a ∷ l) zero h = rw append-nil
each-after-at f a₀ b₀ before (a ∷ l) (suc i) h = each-after-at f a₀ b₀ (before ++ (a ∷ [])) l i (omega arith) ∙ rw append_assoc

-- the answer for record i + 1 among all
pub answer_at-record : (d : Decoded) (other : Answer) (i : ℕ) → i < length (sample_arrivals d) → get_or (answers_of d) i other ≡ answer_at d i
unfolding answers each
answer_at-record d other i h = each-after-at (answer_to (size_of d)) no_arrival other [] (sample_arrivals d) i h

-- an answer that has no gap, for a place where there is none
abbrev pub no_answer : Answer
no_answer = Answer.Duplicate (record { first = 0 })

-- the gap of each answer among those of all
pub gap-of-answer : (l : List Answer) (i : ℕ) → get_or (gaps l) i None ≡ gap_of l (position_of (get_or l i no_answer))
unfolding gaps gap_of position_of
gap-of-answer l i = get_or-map (λ (a : Answer). gap_of l (position_of a)) l i no_answer

module _ (d : Decoded) (asked : ℕ) where
  -- a refused call has no answer and no gap
  pub answer-refused : (other : Answer) → (record_refusal d asked ≡ 0 → ⊥) → at_record other (answers_of d) asked ≡ other
  answer-refused other h =
      at-outside other (answers_of d) asked (λ low high. asked-outside d asked h low
      (omega (arith, length-answers (size_of d) (sample_arrivals d))))

  -- there is a gap or none for each record
  gaps-length : length (gaps (answers_of d)) ≡ length (sample_arrivals d)
  unfolding gaps
  gaps-length = length-map (answers_of d) _ ∙ length-answers (size_of d) (sample_arrivals d)

  -- and no gap
  gap-refused : (record_refusal d asked ≡ 0 → ⊥) → at_record None (gaps (answers_of d)) asked ≡ None
  gap-refused h = at-outside None (gaps (answers_of d)) asked (λ low high. asked-outside d asked h low (omega (arith, gaps-length)))

  module _ (e : record_refusal d asked ≡ 0) where
    -- one that is not has those of a record
    pub record-inside : (1 ≤ asked) × (asked ≤ length (sample_arrivals d))
    record-inside = asked-within d 1 (length (sample_arrivals d)) asked e

    -- its answer
    pub answer-known : (other : Answer) → at_record other (answers_of d) asked ≡ answer_at d (asked - 1)
    answer-known other =
        at-inside other (answers_of d) asked record-inside.0 ∙ answer_at-record d other (asked - 1) (omega (arith, record-inside))

    -- and its gap
    pub gap-known : at_record None (gaps (answers_of d)) asked ≡ gap_of (answers_of d) (position_of (answer_at d (asked - 1)))
    gap-known =
        at-inside None (gaps (answers_of d)) asked record-inside.0
        ∙ gap-of-answer (answers_of d) (asked - 1)
        ∙ ap (λ (a : Answer). gap_of (answers_of d) (position_of a)) (answer_at-record d no_answer (asked - 1) (omega (arith, record-inside)))

-- ---- the position of an answer

-- the position of a first arrival
first-place : (size : ℕ → ℕ) (fs : List Arrival) (a : Arrival) → position_of (first_answer size fs a) ≡ some (length fs + 1)
unfolding first_answer in_order_answer reordered_answer position_of
first-place size fs a = go (is_in_order fs a.number)
  where
    go : (t : Bool) → position_of (cond t (in_order_answer fs a) (reordered_answer size fs a (discontinuity fs a.number)))
        ≡ some (length fs + 1)
    go true = refl
    go false = refl

-- there are no fewer first arrivals among more arrivals
firsts-one : (l : List Arrival) (a : Arrival) → length (firsts l) ≤ length (firsts (l ++ (a ∷ [])))
firsts-one l a = rw (firsts_more l a) (go (has a.number (firsts l)) refl)
  where
    go : (t : Bool) → has a.number (firsts l) ≡ t → length (firsts l) ≤ length (with_arrival (firsts l) a)
    go true e = rw (with-duplicate (firsts l) a e) (omega arith)
    go false e = rw (with_first (firsts l) a e) (omega (arith, length-append (firsts l) (a ∷ [])))

-- however many more
firsts-grow : (l m : List Arrival) → length (firsts l) ≤ length (firsts (l ++ m))
firsts-grow l [] = rw append-nil (omega arith)
firsts-grow l (a ∷ m) = let k = rw append_assoc at (firsts-grow (l ++ (a ∷ [])) m) in omega (arith, firsts-one l a, k)

module _ (d : Decoded) (layout : Layout) (i : ℕ) (h : HasRecord d layout i) where
  -- the position of record i + 1, if it is a first arrival
  pub new-place : has (arrival_at d i).number (before d i) ≡ false → position_of (answer_at d i) ≡ some (length (firsts (before d i)) + 1)
  new-place e = rw (answer-first (size_of d) (before d i) (arrival_at d i) e) (first-place (size_of d) (firsts (before d i)) (arrival_at d i))

  -- every position is from 1 to L
  position-le : (p : ℕ) → position_of (answer_at d i) ≡ some p → (1 ≤ p) × (p ≤ arrived (answers_of d))
  unfolding position_of
  position-le p is = rw (arrived-answers (size_of d) (sample_arrivals d)) (go (has (arrival_at d i).number (before d i)) refl)
    where
      grown : length (firsts (before d (i + 1))) ≤ length (firsts (sample_arrivals d))
      grown = rw (take-append-drop (i + 1) (sample_arrivals d)) at (firsts-grow (before d (i + 1)) (drop (i + 1) (sample_arrivals d)))

      go : (t : Bool) → has (arrival_at d i).number (before d i) ≡ t → (1 ≤ p) × (p ≤ length (firsts (sample_arrivals d)))
      go true e = absurd (some-ne-none p (sym is ∙ ap position_of (answer-duplicate (size_of d) (before d i) (arrival_at d i) e)))
      go false e =
          let more : firsts (before d (i + 1)) ≡ firsts (before d i) ++ (arrival_at d i ∷ []) =
          ap firsts (before_more d layout i h) ∙ firsts-first (before d i) (arrival_at d i) e in
          let both : some p ≡ some (length (firsts (before d i)) + 1) = sym is ∙ new-place e in
          let here : p ≡ length (firsts (before d i)) + 1 = cc in
          (omega (arith, here), omega (arith, grown, ap length more, length-append (firsts (before d i)) (arrival_at d i ∷ []), here))

  -- and L at most 4,096
  arrived-le : arrived (answers_of d) ≤ sent_most
  arrived-le =
      omega (
        arith,
        arrived-answers (size_of d) (sample_arrivals d),
        length-firsts (sample_arrivals d),
        arrivals-laid d layout h.file,
        h.file.few,
      )

-- ---- the calls' answers

-- a file of this layout has as many records
pub asked-record : (d : Decoded) (layout : Layout) → FileLayout d layout → (asked : ℕ)
    → asked_refusal d 1 layout.arrivals asked ≡ record_refusal d asked
asked-record d layout h asked = ap (λ (n : ℕ). asked_refusal d 1 n asked) (arrivals-laid d layout h)

-- a refusal and an answer
abbrev answer-with : ℕ → Answer → RecordAnswer
answer-with r a = record { refusal = r; answer = a }

-- a refusal and a gap
abbrev gap-with : ℕ → Gap → RecordGap
gap-with r g = record { refusal = r; gap = g }

-- a refusal and the counts of a degree
abbrev counts_with : ℕ → ℕ → List Answer → DegreeCounts
counts_with n r l = record { refusal = r; reordered = n_reordered n l; arrived = arrived l }

module _ (d : Decoded) (asked r : ℕ) (e : r ≡ record_refusal d asked) where
  -- an answer with a refusal
  pub answered-refused : (r ≡ 0 → ⊥) → answer-with r (Answer.InOrder (record { position = 0; jump = 0 })) ≡ record_answer d asked
  unfolding record_answer
  answered-refused h = ap₂ answer-with e (sym (answer-refused d asked _ (λ z. h (e ∙ z))))

  -- without one
  pub answered : r ≡ 0 → (a : Answer) → a ≡ answer_at d (asked - 1) → answer-with r a ≡ record_answer d asked
  unfolding record_answer
  answered z a k = ap₂ answer-with e (k ∙ sym (answer-known d asked (sym e ∙ z) _))

  -- a gap with a refusal
  pub gap-answered-refused : (r ≡ 0 → ⊥) → gap-with r None ≡ record_gap d asked
  unfolding record_gap
  gap-answered-refused h = ap₂ gap-with e (sym (gap-refused d asked (λ z. h (e ∙ z))))

  -- without one
  gap-answered : r ≡ 0 → (g : Gap) → g ≡ gap_of (answers_of d) (position_of (answer_at d (asked - 1))) → gap-with r g ≡ record_gap d asked
  unfolding record_gap
  gap-answered z g k = ap₂ gap-with e (k ∙ sym (gap-known d asked (sym e ∙ z)))

module _ (d : Decoded) (n r : ℕ) (e : r ≡ asked_refusal d 1 degree_most n) where
  -- the counts of a degree with a refusal
  pub degree-answered-refused : (r ≡ 0 → ⊥) → record { refusal = r; reordered = 0; arrived = 0 } ≡ degree_counts d n
  unfolding degree_counts n_reordered arrived count
  degree-answered-refused h = ap₂ (counts_with n) e (sym (degree-refused d n (λ z. h (e ∙ z))))

  -- without one
  pub degree-answered : r ≡ 0 → (part whole : ℕ) → part ≡ n_reordered n (answers_of d) → whole ≡ arrived (answers_of d)
      → record { refusal = r; reordered = part; arrived = whole } ≡ degree_counts d n
  unfolding degree_counts
  degree-answered z part whole p w = rw (p, w) (ap₂ (counts_with n) e (sym (degree-accepted d n (sym e ∙ z))))

-- ---- the gap of a record, by its position

module _ (d : Decoded) (layout : Layout) (h : FileLayout d layout) (asked : ℕ) (z : asked_refusal d 1 layout.arrivals asked ≡ 0) where
  -- the record asked for is one of the file's
  pub record-laid : (1 ≤ asked) × (asked ≤ layout.arrivals)
  record-laid = asked-within d 1 layout.arrivals asked z

  -- so it is there
  inside : HasRecord d layout (asked - 1)
  inside = record { file = h; inside = omega (arith, record-laid) }

  -- the call is not refused
  pub record-none : 0 ≡ record_refusal d asked
  record-none = sym z ∙ asked-record d layout h asked

  -- a copy has none
  pub gap-copy : none ≡ position_of (answer_at d (asked - 1)) → gap-with 0 None ≡ record_gap d asked
  unfolding gap_of
  gap-copy is = gap-answered d asked 0 record-none refl None (ap (gap_of (answers_of d)) is)

  -- any other arrival has a position
  module _ (p : ℕ) (is : some p ≡ position_of (answer_at d (asked - 1))) where
    -- which is from 1 to 4,096
    pub place-few : (1 ≤ p) × (p ≤ sent_most)
    place-few =
        let k = position-le d layout (asked - 1) inside p (sym is) in
        (k.0, omega (arith, k.1, arrived-le d layout (asked - 1) inside))

    -- and the gap of that position
    pub gap-placed : (g : Gap) → g ≡ gap_of (answers_of d) (some p) → gap-with 0 g ≡ record_gap d asked
    gap-placed g k = gap-answered d asked 0 record-none refl g (k ∙ ap (gap_of (answers_of d)) is)
