-- Rows in a lent list. Numbers that are set one after the other are spliced in (`set_next`, `row-next`, `row-set`), and eight of them are
-- a row (`eight`). There are eight for each record (`rows-length`), and one record more puts its row after those before (`rows_more`,
-- `rows_next`), up to the last that is wanted (`rows-wanted`); from the first on these are all (`rows-filled`). A row tells its answer: two
-- rows that are the same have the same numbers, the first of which is that of the case (`rows_tell`). Here d is the decoded file, y its
-- layout, from the records before the first row, i those before the next one, old and new the list before and now. Assumes nothing.
use mathlib.Core.Path.{◌≡◌, refl, sym, ap, ap₂, subst, ◌∙◌}
use mathlib.Core.Bool.{Bool, true, false, cond}
use mathlib.Core.List.{List, [], ◌∷◌, ◌++◌, append_assoc, append-nil}
use Prim.Native.Nat.{ℕ, zero, suc, ◌+◌, ◌-◌, ◌*◌, ◌/◌, ◌≤◌, ◌<◌}
use native.Mathlib.Omega.{arith}
use lib.Dec.{ltb}
use lib.ListN.{length, get_or, set, take, drop, length-append, length-take, length-drop, drop_of_length-le}
use lib.Seq.{take-append_seam, length-take-le, drop-append-add, drop-cons}
use borrow.Author.Tests.{ltb-true, ltb-false}
use Rattle.octets.specs.Memory.{part, over, splice}
use Rattle.octets.proofs.Memory.{part-snoc, part-rest, splice-set, splice-next, splice-length, over-next, over-length}
use Rattle.rfc4737.specs.declared.Answer.{Answer}
use Rattle.rfc4737.specs.declared.LateTime.{LateTime}
use Rattle.rfc4737.specs.Answer.{answers}
use Rattle.rfc4737.specs.Numbering.{reordered_number, amount_of}
use Rattle.rfc4737.proofs.Arrivals.{take_more}
use Rattle.rfc4737.proofs.Folds.{length-answers}
use Rattle.sample.specs.declared.Layout.{Layout}
use Rattle.sample.specs.Decode.{Decoded, refused, accepted, sample_of, layout_of}
use Rattle.sample.specs.Calls.{unless_short}
use Rattle.metrics.specs.Sample.{size_of, sample_arrivals, answers_of}
use Rattle.metrics.specs.Records.{answer_at, HasRecord, FileLayout}
use Rattle.metrics.specs.Figures.{record_answer}
use Rattle.metrics.specs.Rows.{row_of, rows_of, row_at, rows_short, rows_from, RowsTo, RowsTell}
use Rattle.metrics.specs.Private.Rows.{with_row, PassEnd}
use Rattle.metrics.proofs.TablesFollow.{arrivals-laid}
use Rattle.metrics.proofs.RecordsAsked.{asked-within, at-inside, answer_at-record}

-- ---- numbers set one after the other

-- one more after some
set_next : (at n : ℕ) (xs old : List ℕ) (x : ℕ) → length xs ≡ n → at + n < length old
    → set (splice at xs old) (at + n) x ≡ splice at (xs ++ (x ∷ [])) old
set_next at n xs old x e h =
    splice-set (at + n) x (splice at xs old) (omega (arith, e, splice-length at xs old (omega (arith, e))))
    ∙ splice-next at (at + n) xs (x ∷ []) old (rw e) (omega arith)

-- one more number of a row
pub row-next : (at k : ℕ) (row old : List ℕ) → k < length row → at + k < length old
    → set (splice at (take k row) old) (at + k) (get_or row k 0) ≡ splice at (take (k + 1) row) old
row-next at k row old inside room =
    rw (take_more 0 row k inside) (set_next at k (take k row) old (get_or row k 0) (length-take-le k row (omega arith)) room)

-- the numbers of a row
pub row-set : (at a b c d e f g h : ℕ) (old : List ℕ) → at + 8 ≤ length old
    → set (set (set (set (set (set (set (set old at a) (at + 1) b) (at + 2) c) (at + 3) d) (at + 4) e) (at + 5) f) (at + 6) g) (at + 7) h
    ≡ splice at (a ∷ b ∷ c ∷ d ∷ e ∷ f ∷ g ∷ h ∷ []) old
row-set at a b c d e f g h old room =
    rw (
      splice-set at a old (omega arith),
      set_next at 1 (a ∷ []) old b refl (omega arith),
      set_next at 2 (a ∷ b ∷ []) old c refl (omega arith),
      set_next at 3 (a ∷ b ∷ c ∷ []) old d refl (omega arith),
      set_next at 4 (a ∷ b ∷ c ∷ d ∷ []) old e refl (omega arith),
      set_next at 5 (a ∷ b ∷ c ∷ d ∷ e ∷ []) old f refl (omega arith),
      set_next at 6 (a ∷ b ∷ c ∷ d ∷ e ∷ f ∷ []) old g refl (omega arith),
    )
    (set_next at 7 (a ∷ b ∷ c ∷ d ∷ e ∷ f ∷ g ∷ []) old h refl (omega arith))

-- the numbers from j on are that at j and those after it
number-next : (l : List ℕ) (j : ℕ) {t : List ℕ} → j < length l → drop (suc j) l ≡ t → drop j l ≡ get_or l j 0 ∷ t
number-next l j h q = drop-cons l j 0 h ∙ ap (λ (t : List ℕ). get_or l j 0 ∷ t) q

-- the eight numbers of a list of eight
pub eight : (l : List ℕ) → length l ≡ 8
    → l ≡ get_or l 0 0 ∷ get_or l 1 0 ∷ get_or l 2 0 ∷ get_or l 3 0 ∷ get_or l 4 0 ∷ get_or l 5 0 ∷ get_or l 6 0 ∷ get_or l 7 0 ∷ []
eight l e =
    number-next l 0 (omega (arith, e))
    (number-next l 1 (omega (arith, e))
    (number-next l 2 (omega (arith, e))
    (number-next l 3 (omega (arith, e))
    (number-next l 4 (omega (arith, e))
    (number-next l 5 (omega (arith, e))
    (number-next l 6 (omega (arith, e))
    (number-next l 7 (omega (arith, e))
    (drop_of_length-le l {i = 8} (omega (arith, e))))))))))

-- ---- rows

pub row-length : (a : Answer) → length (row_of a) ≡ 8
unfolding row_of
row-length (Answer.Duplicate d) = refl
row-length (Answer.InOrder d) = refl
row-length (Answer.Reordered d) = refl

pub rows-length : (l : List Answer) → length (rows_of l) ≡ 8 * length l
unfolding rows_of
rows-length [] = refl
rows-length (a ∷ l) = length-append (row_of a) (rows_of l) ∙ omega (arith, row-length a, rows-length l)

pub rows_more : (l : List Answer) (a : Answer) → rows_of (l ++ (a ∷ [])) ≡ rows_of l ++ row_of a
unfolding rows_of
rows_more [] a = append-nil (row_of a)
rows_more (b ∷ l) a = ap (λ (r : List ℕ). row_of b ++ r) (rows_more l a) ∙ sym (append_assoc (row_of b) (rows_of l) (row_of a))

-- ---- the rows from record from + 1 on

-- before any
pub rows_none : (d : Decoded) (from : ℕ) (old : List ℕ) → old ≡ over (rows_of (part from (0 - from) (answers_of d))) old
unfolding rows_of
rows_none d from old = let e : 0 - from ≡ 0 = omega arith in rw e

-- there are eight numbers for each record after `from` and up to i
rows-count : (d : Decoded) (y : Layout) (from i : ℕ) → FileLayout d y → i ≤ y.arrivals
    → length (rows_of (part from (i - from) (answers_of d))) ≡ 8 * (i - from)
rows-count d y from i h most =
    let n : length (answers_of d) ≡ y.arrivals = length-answers (size_of d) (sample_arrivals d) ∙ sym (arrivals-laid d y h) in
    let k : length (part from (i - from) (answers_of d)) ≡ i - from = simp (length-take, length-drop) (omega (arith, n, most)) in
    rows-length (part from (i - from) (answers_of d)) ∙ ap (λ (n : ℕ). 8 * n) k

-- the list is as long as it was
pub rows-kept : (d : Decoded) (y : Layout) (from i : ℕ) → FileLayout d y → i ≤ y.arrivals → (old new : List ℕ)
    → i ≤ from + length old / 8
    → new ≡ over (rows_of (part from (i - from) (answers_of d))) old → length new ≡ length old
rows-kept d y from i h most old new room is =
    let n = rows-count d y from i h most in
    ap length is ∙ over-length (rows_of (part from (i - from) (answers_of d))) old (omega (arith, n, room))

module _ (d : Decoded) (y : Layout) (from i : ℕ) (h : HasRecord d y i) (old new : List ℕ)
    (is : new ≡ over (rows_of (part from (i - from) (answers_of d))) old) where
  -- there is room for a row
  pub rows-room : i < from + length old / 8 → from ≤ i → 8 * (i - from) + 8 ≤ length new
  rows-room room low =
      let k = rows-kept d y from i h.file (omega (arith, h.inside)) old new (omega (arith, room)) is in
      omega (arith, k, room, low)

  -- under record i + 1
  pub rows_next : (next : List ℕ) → next ≡ with_row from i (row_of (answer_at d i)) new
      → next ≡ over (rows_of (part from (i + 1 - from) (answers_of d))) old
  unfolding with_row
  rows_next next e = e ∙ go (ltb i from) refl
    where
      l : List Answer
      l = answers_of d

      a : Answer
      a = answer_at d i

      go : (t : Bool) → ltb i from ≡ t
          → cond t new (splice (8 * (i - from)) (row_of a) new) ≡ over (rows_of (part from (i + 1 - from) l)) old
      go true q =
          let s : i - from ≡ i + 1 - from = omega (arith, ltb-true i from q) in
          is ∙ ap (λ (n : ℕ). over (rows_of (part from n l)) old) s
      go false q =
          let low : from ≤ i = ltb-false i from q in
          let s : i + 1 - from ≡ i - from + 1 = omega arith in
          let at : from + (i - from) ≡ i = omega arith in
          let n : length l ≡ y.arrivals = length-answers (size_of d) (sample_arrivals d) ∙ sym (arrivals-laid d y h.file) in
          let inside : i < length (sample_arrivals d) = omega (arith, h.inside, arrivals-laid d y h.file) in
          let more : part from (i + 1 - from) l ≡ part from (i - from) l ++ (a ∷ []) =
          ap (λ (n : ℕ). part from n l) s
          ∙ part-snoc from (i - from) l a (omega (arith, n, h.inside))
          ∙ ap (λ (b : Answer). part from (i - from) l ++ (b ∷ [])) (ap (λ (n : ℕ). get_or l n a) at ∙ answer_at-record d a i inside) in
          ap (splice (8 * (i - from)) (row_of a)) is
          ∙ over-next (8 * (i - from)) (rows_of (part from (i - from) l)) (row_of a) old
          (rows-count d y from i h.file (omega (arith, h.inside)))
          ∙ ap (λ (r : List ℕ). over r old) (sym (ap rows_of more ∙ rows_more (part from (i - from) l) a))

-- after the last wanted
pub rows-wanted : (d : Decoded) (y : Layout) (from end i : ℕ) → FileLayout d y → (old new : List ℕ)
    → PassEnd y.arrivals from (length old / 8) end → i ≤ end → end ≤ i
    → new ≡ over (rows_of (part from (i - from) (answers_of d))) old → new ≡ over (rows_from d from (length old)) old
unfolding rows_from
rows-wanted d y from end i h old new p low high is =
    let e : i ≡ end = omega (arith, low, high) in
    is
    ∙ ap (λ (n : ℕ). over (rows_of (part from (n - from) (answers_of d))) old) e
    ∙ ap (λ (l : List Answer). over (rows_of l) old)
    (p.enough (answers_of d) (length-answers (size_of d) (sample_arrivals d) ∙ sym (arrivals-laid d y h)))

-- ---- what the call answers

-- a decoded file that is accepted, where what is lent is too short or not, by the arrivals of its layout
pub into : (short : (arrivals places : ℕ) → Bool) (d : Decoded) (y : Layout) → FileLayout d y → d ≡ accepted (sample_of d)
    → (places : ℕ) (b : Bool)
    → b ≡ short y.arrivals places → unless_short (short (length (sample_arrivals d)) places) d ≡ unless_short b (accepted (sample_of d))
into short d y h a places b q = ap₂ unless_short (ap (λ (n : ℕ). short n places) (sym (arrivals-laid d y h)) ∙ sym q) a

-- with the file's own refusal
pub rows-refused : (d : Decoded) (y : Layout) → y ≡ layout_of d → (y.refusal ≡ 0 → ⊥) → (old : List ℕ) → RowsTo d old y old
unfolding unless_short rows_of answers Rattle.rfc4737.specs.Arrivals.each Rattle.rfc4737.specs.Arrivals.each_after
rows-refused (refused r) y e n old = record { layout = e; rows = refl }
rows-refused (accepted s) y e n old = absurd (n (ap (λ (y : Layout). y.refusal) e))

module _ (d : Decoded) (y : Layout) (h : FileLayout d y) (a : d ≡ accepted (sample_of d)) (old : List ℕ) where
  -- with 8
  pub rows-eight : true ≡ rows_short y.arrivals (length old) → (r : Layout) → r ≡ layout_of (refused 8) → RowsTo d old r old
  unfolding unless_short rows_of answers Rattle.rfc4737.specs.Arrivals.each Rattle.rfc4737.specs.Arrivals.each_after
  rows-eight q r e = let k = into rows_short d y h a (length old) true q in record { layout = rw k e; rows = rw k }

  -- with none
  module _ (q : false ≡ rows_short y.arrivals (length old)) where
    -- there is room for all
    pub rows_fit : 8 * y.arrivals ≤ length old
    unfolding rows_short
    rows_fit = let k = ltb-false (length old / 8) y.arrivals (sym q) in omega (arith, k)

    pub rows-filled : (new : List ℕ) → new ≡ over (rows_from d 0 (length old)) old → RowsTo d old y new
    unfolding unless_short rows_from
    rows-filled new filled =
        let k = into rows_short d y h a (length old) false q in
        let all : part 0 (length old / 8) (answers_of d) ≡ answers_of d =
        part-rest 0 (length old / 8) (answers_of d)
        (omega (arith, length-answers (size_of d) (sample_arrivals d), arrivals-laid d y h, rows_fit)) in
        let f : new ≡ over (rows_of (answers_of d)) old = filled ∙ ap (λ (l : List Answer). over (rows_of l) old) all in
        record { layout = rw k (h.laid ∙ ap layout_of a); rows = rw k (f ∙ ap (λ (d : Decoded). over (rows_of (answers_of d)) old) a) }

-- ---- a row tells its answer

-- two lists of which one begins the other have the same number at a place
same_at : {l m : List ℕ} → l ≡ m → (i : ℕ) → get_or l i 0 ≡ get_or m i 0
same_at e i = ap (λ (l : List ℕ). get_or l i 0) e

rows_same : (a b : Answer) → row_of a ≡ row_of b → a ≡ b
unfolding row_of
rows_same (Answer.Duplicate d) (Answer.Duplicate e) q = let k = same_at q 7 in ap (λ (n : ℕ). Answer.Duplicate (record { first = n })) k
rows_same (Answer.Duplicate d) (Answer.InOrder e) q = let k = same_at q 0 in absurd (omega (arith, k))
rows_same (Answer.Duplicate d) (Answer.Reordered e) q = absurd (late e.late (same_at q 0))
  where
    late : (t : LateTime) → 3 ≡ reordered_number t → ⊥
    late (LateTime.After t) k = omega (arith, k)
    late (LateTime.Before t) k = omega (arith, k)
rows_same (Answer.InOrder d) (Answer.Duplicate e) q = let k = same_at q 0 in absurd (omega (arith, k))
rows_same (Answer.InOrder d) (Answer.InOrder e) q =
    ap₂ (λ (n j : ℕ). Answer.InOrder (record { position = n; jump = j })) (same_at q 1) (same_at q 2)
rows_same (Answer.InOrder d) (Answer.Reordered e) q = absurd (late e.late (same_at q 0))
  where
    late : (t : LateTime) → 0 ≡ reordered_number t → ⊥
    late (LateTime.After t) k = omega (arith, k)
    late (LateTime.Before t) k = omega (arith, k)
rows_same (Answer.Reordered d) (Answer.Duplicate e) q = absurd (late d.late (same_at q 0))
  where
    late : (t : LateTime) → reordered_number t ≡ 3 → ⊥
    late (LateTime.After t) k = omega (arith, k)
    late (LateTime.Before t) k = omega (arith, k)
rows_same (Answer.Reordered d) (Answer.InOrder e) q = absurd (late d.late (same_at q 0))
  where
    late : (t : LateTime) → reordered_number t ≡ 0 → ⊥
    late (LateTime.After t) k = omega (arith, k)
    late (LateTime.Before t) k = omega (arith, k)
rows_same (Answer.Reordered d) (Answer.Reordered e) q =
    made (same_at q 1) (same_at q 3) (late d.late e.late (same_at q 0) (same_at q 4)) (same_at q 5) (same_at q 6)
  where
    late : (s t : LateTime) → reordered_number s ≡ reordered_number t → amount_of s ≡ amount_of t → s ≡ t
    late (LateTime.After s) (LateTime.After t) k g = ap LateTime.After g
    late (LateTime.After s) (LateTime.Before t) k g = absurd (omega (arith, k))
    late (LateTime.Before s) (LateTime.After t) k g = absurd (omega (arith, k))
    late (LateTime.Before s) (LateTime.Before t) k g = ap LateTime.Before g

    made : {p x o n : ℕ} {p' x' o' n' : ℕ} {s t : LateTime} → p ≡ p' → x ≡ x' → s ≡ t → o ≡ o' → n ≡ n'
        → Answer.Reordered (record { position = p; extent = x; late = s; offset = o; largest = n })
        ≡ Answer.Reordered (record { position = p'; extent = x'; late = t; offset = o'; largest = n' })
    made a b c d e = rw (a, b, c, d, e)

-- ---- the row of a record

-- the first eight numbers are the first row, and the rest the other rows
first-row : (a : Answer) (r : List ℕ) → take 8 (row_of a ++ r) ≡ row_of a
first-row a r = subst (λ (n : ℕ). take n (row_of a ++ r) ≡ row_of a) (row-length a) (take-append_seam (row_of a) r)

other-rows : (a : Answer) (r : List ℕ) (n : ℕ) → drop (8 + n) (row_of a ++ r) ≡ drop n r
other-rows a r n = subst (λ (m : ℕ). drop (m + n) (row_of a ++ r) ≡ drop n r) (row-length a) (drop-append-add (row_of a) r n)

pub row-at : (z : Answer) (l : List Answer) (i : ℕ) → i < length l → take 8 (drop (8 * i) (rows_of l)) ≡ row_of (get_or l i z)
unfolding rows_of
row-at z [] i h = absurd (omega arith)
row-at z (a ∷ l) zero h = first-row a (rows_of l)
row-at z (a ∷ l) (suc i) h =
    let e : 8 * suc i ≡ 8 + 8 * i = omega arith in
    ap (λ (n : ℕ). take 8 (drop n (row_of a ++ rows_of l))) e ∙ ap (take 8) (other-rows a (rows_of l) (8 * i)) ∙ row-at z l i (omega arith)

rows_at : (d : Decoded) (asked : ℕ) → (record_answer d asked).refusal ≡ 0
    → row_at (rows_of (answers_of d)) asked ≡ row_of (record_answer d asked).answer
unfolding row_at record_answer
rows_at d asked e =
    let k = asked-within d 1 (length (sample_arrivals d)) asked e in
    let n = length-answers (size_of d) (sample_arrivals d) in
    row-at _ (answers_of d) (asked - 1) (omega (arith, k, n)) ∙ sym (ap row_of (at-inside _ (answers_of d) asked k.0))

pub rows_tell : RowsTell
rows_tell = record { tell = rows_same; at = rows_at }
