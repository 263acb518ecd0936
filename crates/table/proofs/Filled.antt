-- The rows of the records of a part: a block has at most 256 records, and a list of 2,048 numbers has room for their rows. Row k + 1 of
-- those after the first `from` records is that of record from + k + 1 (`block_row`), so `rows_from` leaves the rows of the part in memory
-- (`block-known`); any other part has no records (`none-known`). d is the decoded file, y its layout, old the list before, i the index of
-- a record from 0. Assumes nothing.
use Prim.Native.Nat.{ℕ, suc, ◌+◌, ◌-◌, ◌*◌, ◌/◌, ◌≤◌, ◌<◌, min}
use native.Mathlib.Omega.{arith}
use mathlib.Core.Path.{◌≡◌, sym, ap, subst, ◌∙◌}
use mathlib.Core.Bool.{Bool}
use mathlib.Core.List.{List, [], ◌∷◌}
use lib.ListN.{length, get_or, drop, length-take, length-drop}
use lib.Seq.{get_or-take, get_or-drop}
use Rattle.octets.specs.Below.{Octets}
use Rattle.octets.specs.Memory.{part, over}
use Rattle.octets.proofs.Memory.{part-drop, part-most, over-length, over-take}
use Rattle.rfc4737.specs.Refusals.{refusal_if, first_refusal}
use Rattle.rfc4737.specs.Runs.{counts}
use Rattle.rfc4737.proofs.Due.{not-outside}
use Rattle.rfc4737.proofs.Folds.{length-answers}
use Rattle.sample.specs.declared.Layout.{Layout}
use Rattle.sample.specs.Decode.{Decoded, refused, accepted, decode, layout_of}
use Rattle.metrics.specs.Sample.{size_of, sample_arrivals, answers_of}
use Rattle.metrics.specs.declared.SampleCounts.{SampleCounts}
use Rattle.metrics.specs.Figures.{record_answer, record_refusal, sample_counts}
use Rattle.metrics.specs.Rows.{row_of, rows_of, rows_from, row_at}
use Rattle.metrics.proofs.RowLaws.{rows-length, row-at, rows_tell}
use Rattle.metrics.proofs.FoundInFile.{laid}
use Rattle.metrics.specs.Records.{FileLayout}
use Rattle.table.specs.Text.{answer_at, block_start}
use Rattle.table.specs.Private.Rows.{PartRows}

-- the layout that the check or `rows_from` returns
pub file-laid : (file : List ℕ) → Octets file → {y : Layout} → y ≡ layout_of (decode file) → FileLayout (decode file) y
file-laid file o e = subst (λ (y : Layout). FileLayout (decode file) y) (sym e) (laid file o)

-- where record i + 1 of block n stands in the sample of A records, and in the block
in_block : (A n i : ℕ) → (n ≡ 0 → ⊥) → min (256 * (n - 1)) A ≤ i → i < min (256 * n) A
    → (i < A) × (256 * (n - 1) ≤ i) × (i < 256 * (n - 1) + 256) × (min (256 * (n - 1)) A ≡ 256 * (n - 1))
in_block A n i some low high = (omega arith, omega arith, omega arith, omega arith)

-- the next n elements after the first `from` have the element at i
part-has : {A : Type 0} (from n i : ℕ) (l : List A) → from ≤ i → i < from + n → i < length l → i - from < length (part from n l)
part-has from n i l low high inside = simp (length-take, length-drop) (omega arith)

-- row k + 1
row-part : (rows : List ℕ) (k : ℕ) → row_at rows (suc k) ≡ part (8 * k) 8 rows
unfolding row_at
row-part rows k = let e : suc k - 1 ≡ k = omega arith in rw e

module _ (d : Decoded) where
  -- a record of the sample is not refused
  not-refused : (i : ℕ) → i < length (sample_arrivals d) → (record_answer d (suc i)).refusal ≡ 0
  unfolding record_answer
  not-refused i h = go d h where
    go : (d : Decoded) → i < length (sample_arrivals d) → record_refusal d (suc i) ≡ 0
    go (refused r) h = absurd (omega (arith, h))
    go (accepted s) h =
        ap (λ (t : Bool). first_refusal (0 ∷ refusal_if t 9 ∷ []))
        (not-outside 1 (length s.arrivals) (suc i) (omega arith) (omega (arith, h)))

  -- the row of record i + 1 among those of the n records after the first `from`
  block_row : (from n i : ℕ) → from ≤ i → i < from + n → i < length (sample_arrivals d)
      → part (8 * (i - from)) 8 (rows_of (part from n (answers_of d))) ≡ row_of (answer_at d i)
  block_row from n i low high inside =
      let l = answers_of d in
      let z = answer_at d i in
      let count : length l ≡ length (sample_arrivals d) = length-answers (size_of d) (sample_arrivals d) in
      let long : i < length l = omega (arith, count, inside) in
      let at : from + (i - from) ≡ i = omega (arith, low) in
      row-at z (part from n l) (i - from) (part-has from n i l low high long)
      ∙ ap row_of
      (get_or-take n (drop from l) (i - from) z (omega (arith, low, high))
      ∙ get_or-drop from l (i - from) z
      ∙ ap (λ (k : ℕ). get_or l k z) at)
      ∙ sym (row-at z l i long)
      ∙ sym (row-part (rows_of l) i)
      ∙ rows_tell.at d (suc i) (not-refused i inside)

  -- parts without records
  pub none-known : (number : ℕ) → block_start d number ≤ block_start d (number - 1) → (rows : List ℕ) → PartRows d number rows
  none-known number none rows = record { room = omega (arith, none); row = λ i low high. absurd (omega (arith, none, low, high)) }

  -- parts of records, after `rows_from`
  pub block-known : (number : ℕ) → (number ≡ 0 → ⊥) → (old : List ℕ) {rows : List ℕ} → length old ≡ 2048
      → rows ≡ over (rows_from d (256 * (number - 1)) (length old)) old → PartRows d number rows
  unfolding rows_from
  block-known number some old {rows} long f =
      let from = 256 * (number - 1) in
      let l = part from 256 (answers_of d) in
      let places : length old / 8 ≡ 256 = omega (arith, long) in
      let g : rows ≡ over (rows_of l) old = f ∙ ap (λ (n : ℕ). over (rows_of (part from n (answers_of d))) old) places in
      let fits : length (rows_of l) ≤ length old = omega (arith, rows-length l, part-most from 256 (answers_of d), long) in
      let kept : length rows ≡ 2048 = ap length g ∙ over-length (rows_of l) old fits ∙ long in
      record {
        room = omega (arith, kept);
        row =
            λ i low high.
            let w = in_block (length (sample_arrivals d)) number i some low high in
            let count : length (answers_of d) ≡ length (sample_arrivals d) = length-answers (size_of d) (sample_arrivals d) in
            let many = part-has from 256 i (answers_of d) w.1 w.2 (subst (λ (n : ℕ). i < n) (sym count) w.0) in
            let m : 8 * (i - from) + 8 ≤ length (rows_of l) = omega (arith, rows-length l, many) in
            ap (λ (k : ℕ). row_at rows (suc (i - k))) w.3
            ∙ row-part rows (i - from)
            ∙ ap (λ (r : List ℕ). part (8 * (i - from)) 8 r) g
            ∙ part-drop (8 * (i - from)) 8 (over (rows_of l) old)
            ∙ ap (λ (r : List ℕ). drop (8 * (i - from)) r) (over-take (rows_of l) old (8 * (i - from) + 8) m)
            ∙ sym (part-drop (8 * (i - from)) 8 (rows_of l))
            ∙ block_row from 256 i w.1 w.2 w.0;
      }

pub counts-known : (d : Decoded) {r : SampleCounts} → r ≡ sample_counts d → r.counts ≡ counts (answers_of d)
unfolding sample_counts
counts-known d e = ap (λ (r : SampleCounts). r.counts) e
