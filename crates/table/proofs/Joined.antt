-- The parts of a table are the whole table: the first b + 1 parts are the text before the records and the records before block b
-- (`parts-to`). d is the decoded file, b a block, n and m are numbers of records. Assumes nothing.
use Prim.Native.Nat.{ℕ, zero, suc, ◌+◌, ◌-◌, ◌≤◌, ◌<◌}
use native.Mathlib.Omega.{arith}
use mathlib.Core.Path.{◌≡◌, refl, sym, ap, ◌∙◌}
use mathlib.Core.Bool.{Bool}
use mathlib.Core.List.{List, [], ◌++◌, append_assoc, append-nil}
use borrow.Author.Tests.{eq-eqb, ne_eqb, le-leb, lt-leb}
use lib.ListN.{length}
use Rattle.sample.specs.Decode.{Decoded}
use Rattle.metrics.specs.Sample.{sample_arrivals}
use Rattle.table.specs.Text.{start_of, end_of, record_text, records_from, block_start, part_text, parts_to, table_text, PartsJoin}

module _ (json : Bool) (d : Decoded) where
  -- the text before the records
  abbrev start : List ℕ
  start = start_of json d

  -- ---- each part

  pub part-start : (part : ℕ) → part ≡ 0 → start ≡ part_text json d part
  unfolding part_text
  part-start part e = sym (simp (eq-eqb part 0 e))

  pub part-records : (part : ℕ) → (part ≡ 0 → ⊥) → part ≤ 16
      → records_from json d (block_start d (part - 1)) (block_start d part - block_start d (part - 1)) ≡ part_text json d part
  unfolding part_text
  part-records part n h = sym (simp (ne_eqb part 0 n, le-leb part 16 h))

  pub part_end : (part : ℕ) → part ≡ 17 → end_of json d ≡ part_text json d part
  unfolding part_text
  part_end part e = sym (simp (ne_eqb part 0 (λ z. omega (arith, e, z)), lt-leb part 16 (omega (arith, e)), eq-eqb part 17 e))

  pub part_none : (part : ℕ) → 17 < part → [] ≡ part_text json d part
  unfolding part_text
  part_none part h =
      sym (simp (ne_eqb part 0 (λ z. omega (arith, h, z)), lt-leb part 16 (omega (arith, h)), ne_eqb part 17 (λ z. omega (arith, h, z))))

  -- ---- all parts

  records-join : (n m : ℕ) → records_from json d 0 n ++ records_from json d n m ≡ records_from json d 0 (n + m)
  records-join n zero =
      let e : n ≡ n + 0 = omega arith in
      append-nil (records_from json d 0 n) ∙ ap (λ (k : ℕ). records_from json d 0 k) e
  records-join n (suc m) =
      let e : n + suc m ≡ suc (n + m) = omega arith in
      let f : n + m ≡ 0 + (n + m) = omega arith in
      sym (append_assoc (records_from json d 0 n) (records_from json d n m) (record_text json d (n + m)))
      ∙ ap (λ (l : List ℕ). l ++ record_text json d (n + m)) (records-join n m)
      ∙ ap (λ (k : ℕ). records_from json d 0 (n + m) ++ record_text json d k) f
      ∙ sym (ap (λ (k : ℕ). records_from json d 0 k) e)

  parts-to : (b : ℕ) → b ≤ 16 → parts_to json d (suc b) ≡ start ++ records_from json d 0 (block_start d b)
  parts-to zero h =
      let e : 0 ≡ block_start d 0 = omega arith in
      sym (part-start 0 refl) ∙ sym (append-nil start) ∙ ap (λ (k : ℕ). start ++ records_from json d 0 k) e
  parts-to (suc b) h =
      let low : ℕ = block_start d b in
      let high : ℕ = block_start d (suc b) in
      let e : suc b - 1 ≡ b = omega arith in
      let f : low + (high - low) ≡ high = omega arith in
      let p : part_text json d (suc b) ≡ records_from json d low (high - low) =
      sym (part-records (suc b) (λ z. omega (arith, z)) h) ∙ ap (λ (k : ℕ). records_from json d (block_start d k) (high - block_start d k))
      e in
      ap (λ (l : List ℕ). l ++ part_text json d (suc b)) (parts-to b (omega (arith, h)))
      ∙ ap (λ (l : List ℕ). (start ++ records_from json d 0 low) ++ l) p
      ∙ append_assoc start (records_from json d 0 low) (records_from json d low (high - low))
      ∙ ap (λ (l : List ℕ). start ++ l) (records-join low (high - low) ∙ ap (λ (k : ℕ). records_from json d 0 k) f)

  pub parts_join : length (sample_arrivals d) ≤ 4096 → PartsJoin json d
  unfolding table_text
  parts_join few =
      let e : block_start d 16 ≡ length (sample_arrivals d) = omega (arith, few) in
      ap (λ (l : List ℕ). l ++ part_text json d 17) (parts-to 16 (omega arith))
      ∙ ap (λ (l : List ℕ). (start ++ records_from json d 0 (block_start d 16)) ++ l) (sym (part_end 17 refl))
      ∙ ap (λ (k : ℕ). (start ++ records_from json d 0 k) ++ end_of json d) e
