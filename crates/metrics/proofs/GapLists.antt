-- The gaps of all records in a lent list. The record of a packet's first arrival stays after later arrivals (`record-kept`). So after all
-- arrivals it is i + 1 exactly if record i + 1 is a first arrival (`copy-recorded`, `new-recorded`), which then has the next position;
-- any other has none (`position-new`, `position-copy`). With the next position the last discontinuity moves on or stays (`last-stays`). A
-- gap is the difference of two positions of which the second is greater (`neighbour-below`), so it is not 0, and its number determines it
-- (`gaps-tell`).
-- Here l and m are arrivals or answers, s is a packet's number, d the decoded file, i the number of records before, n that of the first
-- arrivals among them, p a position, q its neighbour, discoverers the table of discoverers, old and new the list before and after.
-- Assumes nothing.
use mathlib.Core.Path.{◌≡◌, refl, sym, ap, ◌∙◌}
use mathlib.Core.Bool.{Bool, true, false, cond}
use mathlib.Core.List.{List, [], ◌∷◌, ◌++◌, append-nil, append_assoc}
use mathlib.Core.Option.{Option, none, some, some-ne-none}
use Prim.Native.Nat.{ℕ, zero, suc, ◌+◌, ◌-◌, ◌≤◌, ◌<◌}
use native.Mathlib.Omega.{arith}
use lib.ListN.{length, take, drop, get_or, take-append-drop, length-append, length-map, get_or-map}
use lib.Seq.{take_all}
use borrow.Author.Tests.{eq-eqb}
use Rattle.octets.specs.Memory.{over}
use Rattle.rfc4737.specs.declared.Arrival.{Arrival}
use Rattle.rfc4737.specs.declared.Answer.{Answer}
use Rattle.rfc4737.specs.Arrivals.{has, firsts, first_record}
use Rattle.rfc4737.specs.Answer.{answers}
use Rattle.rfc4737.specs.Gaps.{Gap, position_of, discoverer, is_some, earlier, neighbour, gap_over, gap_of, gaps}
use Rattle.rfc4737.proofs.Arrivals.{has_more, firsts-duplicate, firsts-first, record-more, length-firsts}
use Rattle.rfc4737.proofs.Folds.{answer-duplicate, length-answers}
use Rattle.rfc4737.specs.Judge.{sent_most}
use Rattle.sample.specs.declared.Layout.{Layout}
use Rattle.sample.specs.Decode.{Decoded, refused, accepted, sample_of, layout_of}
use Rattle.sample.specs.Calls.{unless_short}
use Rattle.metrics.specs.Sample.{size_of, sample_arrivals, answers_of}
use Rattle.metrics.specs.Records.{arrival_at, before, answer_at, FileLayout, HasRecord}
use Rattle.metrics.specs.Figures.{at_record, record_gap}
use Rattle.metrics.specs.Gaps.{gap_number, number_gap, gap_numbers, list_short, GapsTo, GapsTell}
use Rattle.metrics.specs.Private.Tables.{RecordTable}
use Rattle.std.specs.Prelude.{Option as Found, Some, None, IfSome}
use Rattle.metrics.specs.Private.Steps.{found, known, last_to, PositionAt}
use Rattle.metrics.proofs.Records.{record-some, record-stays}
use Rattle.metrics.proofs.TablesFollow.{arrivals-laid, before_more, before-length}
use Rattle.metrics.proofs.OneArrivalMore.{known_some}
use Rattle.metrics.proofs.Discovered.{last-here, last-before}
use Rattle.metrics.proofs.RecordsAsked.{no_answer, gap-of-answer, answer_at-record, new-place}
use Rattle.metrics.proofs.RowLaws.{into}

-- ---- first arrivals by their records

-- a packet that has arrived has still arrived after the next arrival
has-still : (s : ℕ) (l : List Arrival) (a : Arrival) → has s l ≡ true → has s (l ++ (a ∷ [])) ≡ true
has-still s l a e = has_more s l a ∙ simp e

-- its record stays after any further arrivals
record-kept : (s : ℕ) (l m : List Arrival) → has s l ≡ true → first_record s (l ++ m) ≡ first_record s l
record-kept s l [] e = ap (first_record s) (append-nil l)
record-kept s l (a ∷ m) e =
    sym (ap (first_record s) (append_assoc l (a ∷ []) m)) ∙ record-kept s (l ++ (a ∷ [])) m (has-still s l a e) ∙ record-stays l a s e

-- so does that of the first arrivals of a list
record-within : (s n : ℕ) (l : List Arrival) → has s (take n l) ≡ true → first_record s l ≡ first_record s (take n l)
record-within s n l e = ap (first_record s) (sym (take-append-drop n l)) ∙ record-kept s (take n l) (drop n l) e

module _ (d : Decoded) (layout : Layout) (i : ℕ) (h : HasRecord d layout i) where
  -- the record of a packet that arrived before record i + 1
  copy-recorded : has (arrival_at d i).number (before d i) ≡ true → first_record (arrival_at d i).number (sample_arrivals d) ≤ i
  copy-recorded e =
      let s = (arrival_at d i).number in
      omega (arith, record-within s i (sample_arrivals d) e, record-some s (before d i) e, before-length d layout i h)

  -- the record of a packet that arrives with record i + 1
  new-recorded : has (arrival_at d i).number (before d i) ≡ false → first_record (arrival_at d i).number (sample_arrivals d) ≡ i + 1
  new-recorded e =
      let s = (arrival_at d i).number in
      let own = eq-eqb s s refl in
      let here : has s (before d i ++ (arrival_at d i ∷ [])) ≡ true = has_more s (before d i) (arrival_at d i) ∙ simp (e, own) in
      let last : first_record s (before d i ++ (arrival_at d i ∷ [])) ≡ length (before d i) + 1 =
      record-more s (before d i) (arrival_at d i) ∙ simp (e, own) in
      record-within s (i + 1) (sample_arrivals d) (ap (has s) (before_more d layout i h) ∙ here)
      ∙ ap (first_record s) (before_more d layout i h)
      ∙ last
      ∙ ap (λ (n : ℕ). n + 1) (before-length d layout i h)

  -- the next position is an index of a table
  pub next-few : (n : ℕ) → n ≡ length (firsts (before d i)) → n + 1 ≤ sent_most
  next-few n many = omega (arith, many, length-firsts (before d i), before-length d layout i h, h.inside, h.file.few)

  module _ (r : ℕ) (is : r ≡ first_record (arrival_at d i).number (sample_arrivals d)) (n : ℕ) (many : n ≡ length (firsts (before d i))) where
    -- a first arrival has the next position
    pub position-new : r ≡ i + 1 → PositionAt d i n (Some (n + 1))
    position-new t = go (has (arrival_at d i).number (before d i)) refl
      where
        go : (b : Bool) → has (arrival_at d i).number (before d i) ≡ b → PositionAt d i n (Some (n + 1))
        go true e = absurd (omega (arith, copy-recorded e, is, t))
        go false e =
            let more : firsts (before d (i + 1)) ≡ firsts (before d i) ++ (arrival_at d i ∷ []) =
            ap firsts (before_more d layout i h) ∙ firsts-first (before d i) (arrival_at d i) e in
            let one = length-append (firsts (before d i)) (arrival_at d i ∷ []) in
            record {
              is = ap (λ (n : ℕ). some (n + 1)) many ∙ sym (new-place d layout i h e);
              next = (refl, next-few n many);
              after = omega (arith, many, ap length more, one);
            }

    -- any other arrival has none
    pub position-copy : (r ≡ i + 1 → ⊥) → PositionAt d i n None
    unfolding position_of
    position-copy t = go (has (arrival_at d i).number (before d i)) refl
      where
        go : (b : Bool) → has (arrival_at d i).number (before d i) ≡ b → PositionAt d i n None
        go true e =
            record {
              is = sym (ap position_of (answer-duplicate (size_of d) (before d i) (arrival_at d i) e));
              next = tt;
              after = many ∙ sym (ap length (ap firsts (before_more d layout i h) ∙ firsts-duplicate (before d i) (arrival_at d i) e));
            }
        go false e = absurd (t (is ∙ new-recorded e))

-- the records after all arrivals
pub recorded-all : (d : Decoded) (layout : Layout) (records : List ℕ) → FileLayout d layout
    → RecordTable (before d layout.arrivals) records
    → RecordTable (sample_arrivals d) records
recorded-all d layout records h r =
    let all : before d layout.arrivals ≡ sample_arrivals d =
    take_all layout.arrivals (sample_arrivals d) (omega (arith, arrivals-laid d layout h)) in
    record { at = λ s low high. r.at s low high ∙ ap (first_record s) all }

-- ---- the last discontinuity

-- before the next position
pub last-prior : (discoverers : List ℕ) (n p : ℕ) (last : Found ℕ) → found last ≡ known (last_to discoverers n) → p ≡ n + 1
    → found last ≡ known (last_to discoverers (p - 1))
last-prior discoverers n p last e k = let q : n ≡ p - 1 = omega arith in e ∙ ap (λ (n : ℕ). known (last_to discoverers n)) q

-- so it is before any position, if there is one
pub last-listed : (discoverers : List ℕ) (n : ℕ) (last position : Found ℕ) → IfSome position (λ p. (p ≡ n + 1) × (p ≤ sent_most))
    → found last ≡ known (last_to discoverers n)
    → IfSome position (λ p. (1 ≤ p) × (p ≤ sent_most) × (found last ≡ known (last_to discoverers (p - 1))))
last-listed discoverers n last None h e = tt
last-listed discoverers n last (Some p) h e = (omega (arith, h.0), h.1, last-prior discoverers n p last e h.0)

-- it stays where the next position is none
pub last-stays : (discoverers : List ℕ) (n p : ℕ) (last : Found ℕ) → found last ≡ known (last_to discoverers n) → p ≡ n + 1
    → get_or discoverers p 0 ≡ 0
    → found last ≡ known (last_to discoverers p)
last-stays discoverers n p last e k z =
    last-prior discoverers n p last e k ∙ ap known (sym (last-before discoverers p (omega arith) z))

-- and else is that position
pub last-moves : (discoverers : List ℕ) (p : ℕ) → 0 < p → (get_or discoverers p 0 ≡ 0 → ⊥) → some p ≡ known (last_to discoverers p)
last-moves discoverers p low z =
    sym (ap known (last-here discoverers p low z) ∙ known_some p (λ (e : p ≡ 0). omega arith))

-- ---- gaps as numbers

-- no position has no gap
pub number-none : (l : List Answer) → 0 ≡ gap_number (gap_of l none)
unfolding gap_of
number-none l = refl

-- the number of each answer among those of all
number-of-answer : (l : List Answer) (i : ℕ) → get_or (gap_numbers l) i 0 ≡ gap_number (gap_of l (position_of (get_or l i no_answer)))
unfolding gap_numbers
number-of-answer l i = get_or-map gap_number (gaps l) i None ∙ ap gap_number (gap-of-answer l i)

module _ (d : Decoded) (layout : Layout) (h : FileLayout d layout) where
  -- there is a number for each record
  pub numbers-length : length (gap_numbers (answers_of d)) ≡ layout.arrivals
  unfolding gap_numbers gaps
  numbers-length =
      length-map (gaps (answers_of d)) gap_number
      ∙ length-map (answers_of d) _
      ∙ length-answers (size_of d) (sample_arrivals d) ∙ sym (arrivals-laid d layout h)

  -- that of record i + 1 by its position
  pub number_at : (i x : ℕ) (o : Option ℕ) → i < layout.arrivals → x ≡ gap_number (gap_of (answers_of d) o) → o ≡ position_of (answer_at d i)
      → x ≡ get_or (gap_numbers (answers_of d)) i 0
  number_at i x o g e k =
      let here = answer_at-record d no_answer i (omega (arith, g, arrivals-laid d layout h)) in
      e
      ∙ ap (λ (o : Option ℕ). gap_number (gap_of (answers_of d) o)) (k ∙ ap position_of (sym here))
      ∙ sym (number-of-answer (answers_of d) i)

-- a number that is not 0 is a gap
number-known : (n : ℕ) → (n ≡ 0 → ⊥) → number_gap n ≡ Some n
number-known zero h = absurd (h refl)
number-known (suc n) h = refl

-- the neighbour is a lesser position
neighbour-below : (l : List Answer) (p q : ℕ) → neighbour l p ≡ some q → q < p
unfolding neighbour
neighbour-below l zero q e = absurd (some-ne-none q (sym e))
neighbour-below l (suc zero) q e = absurd (some-ne-none q (sym e))
neighbour-below l (suc (suc r)) q e = go (is_some (discoverer (suc r) l)) e (neighbour-below l (suc r) q)
  where
    go : (t : Bool) → cond t (some (suc r)) (neighbour l (suc r)) ≡ some q → (neighbour l (suc r) ≡ some q → q < suc r) → q < suc (suc r)
    go true e k = let s : suc r ≡ q = cc in omega (arith, s)
    go false e k = let s = k e in omega (arith, s)

-- so the number of a gap over it tells the gap
over-told : (l : List Answer) (p : ℕ) (b : Option ℕ) → ((q : ℕ) → b ≡ some q → q < p)
    → number_gap (gap_number (gap_over l p b)) ≡ gap_over l p b
unfolding gap_over
over-told l p none h = refl
over-told l p (some q) h = go (earlier (discoverer q l) (discoverer p l))
  where
    go : (t : Bool) → number_gap (gap_number (cond t (Some (p - q)) None)) ≡ cond t (Some (p - q)) None
    go true = let k = h q refl in number-known (p - q) (λ z. omega (arith, k, z))
    go false = refl

gap-told : (l : List Answer) (o : Option ℕ) → number_gap (gap_number (gap_of l o)) ≡ gap_of l o
unfolding gap_of
gap-told l none = refl
gap-told l (some p) = over-told l p (neighbour l p) (neighbour-below l p)

-- at every record
told_at : (l : List Answer) (asked : ℕ) → number_gap (at_record 0 (gap_numbers l) asked) ≡ at_record None (gaps l) asked
unfolding at_record
told_at l zero = refl
told_at l (suc i) =
    ap number_gap (number-of-answer l i) ∙ gap-told l (position_of (get_or l i no_answer)) ∙ sym (gap-of-answer l i)

pub gaps-tell : GapsTell
unfolding record_gap
gaps-tell = record { at = λ d asked. told_at (answers_of d) asked }

-- ---- the call's answer

-- with the file's own refusal
pub gaps-refused : (d : Decoded) (layout : Layout) → layout ≡ layout_of d → (layout.refusal ≡ 0 → ⊥) → (old : List ℕ)
    → GapsTo d old layout old
unfolding unless_short gap_numbers gaps answers Rattle.rfc4737.specs.Arrivals.each Rattle.rfc4737.specs.Arrivals.each_after
gaps-refused (refused r) layout e n old = record { layout = e; gaps = refl }
gaps-refused (accepted s) layout e n old = absurd (n (ap (λ (layout : Layout). layout.refusal) e))

module _ (d : Decoded) (layout : Layout) (h : FileLayout d layout) (a : d ≡ accepted (sample_of d)) (old : List ℕ) where
  -- with 8
  pub gaps-eight : true ≡ list_short layout.arrivals (length old) → (r : Layout) → r ≡ layout_of (refused 8) → GapsTo d old r old
  unfolding unless_short gap_numbers gaps answers Rattle.rfc4737.specs.Arrivals.each Rattle.rfc4737.specs.Arrivals.each_after
  gaps-eight q r e = let k = into list_short d layout h a (length old) true q in record { layout = rw k e; gaps = rw k }

  -- with none
  pub gaps-filled : false ≡ list_short layout.arrivals (length old) → (new : List ℕ) → new ≡ over (gap_numbers (answers_of d)) old
      → GapsTo d old layout new
  unfolding unless_short
  gaps-filled q new f =
      let k = into list_short d layout h a (length old) false q in
      record { layout = rw k (h.laid ∙ ap layout_of a); gaps = rw k (f ∙ ap (λ (d : Decoded). over (gap_numbers (answers_of d)) old) a) }
