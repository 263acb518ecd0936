-- The listing of a checked file. `lines_to` is the listing up to record i: the first line alone before any record (`lines_start`); each
-- record adds its line (`lines_next`); and up to the last record, with the last line, it is whole (`lines_end`). So up to any record it
-- is the start of the whole (`lines_rest`, by induction over the n records that follow). Its length: the figures have few digits, so it
-- has at most 24 octets for the first line and 61 for each record (`lines-within`, by induction over the records), and with the last line
-- at most `listing_octets` (`sample-within`).
-- Here d is the decoded file, laid that the layout is the file's, i the number of records before, c the counts and o that the file is a
-- list of octets. Assumes nothing.
use mathlib.Core.Path.{◌≡◌, refl, sym, ap, ◌∙◌}
use mathlib.Core.List.{List, ◌++◌, append-nil, append_assoc}
use Prim.Native.Nat.{ℕ, zero, suc, ◌+◌, ◌*◌, ◌≤◌}
use native.Mathlib.Omega.{arith}
use lib.ListN.{length, length-append}
use lib.Seq.{take_all}
use Rattle.octets.specs.Below.{Octets}
use Rattle.rfc4737.specs.declared.Counts.{Counts}
use Rattle.rfc4737.specs.Runs.{counts}
use Rattle.listing.specs.Lines.{header_line, record_line, record_lines_from, record_lines, end_line, listing_of}
use Rattle.listing.specs.DigitBounds.{CountsWithin}
use Rattle.listing.specs.Room.{listing_octets}
use Rattle.listing.proofs.Lengths.{header-octets, record-octets, end-octets}
use Rattle.listing.proofs.Records.{lines_more}
use Rattle.rfc4737.proofs.Folds.{length-answers}
use Rattle.sample.specs.Decode.{Decoded, decode, sample_of}
use Rattle.sample.specs.declared.Layout.{Layout}
use Rattle.metrics.specs.Sample.{sample_arrivals, answers_of, size_of}
use Rattle.metrics.specs.Records.{arrival_at, before, answer_at, answers_to, FileLayout, HasRecord}
use Rattle.metrics.specs.Private.Taken.{lines_to}
use Rattle.metrics.specs.Report.{sample_text}
use Rattle.metrics.proofs.TablesFollow.{arrivals-laid, before_more, before-length}
use Rattle.metrics.proofs.OneArrivalMore.{answers_next, answers-end, answers-length}
use Rattle.metrics.proofs.DigitBounds.{answers-within, counts-within}

-- before any record there is the first line
pub lines_start : (d : Decoded) (layout : Layout) → lines_to d layout 0 ≡ header_line layout.sent layout.arrivals
unfolding record_lines record_lines_from
lines_start d layout = append-nil (header_line layout.sent layout.arrivals)

-- after the next record there is that record's line
pub lines_next : (d : Decoded) (layout : Layout) (i : ℕ) → HasRecord d layout i
    → lines_to d layout (i + 1) ≡ lines_to d layout i ++ record_line (i + 1) (arrival_at d i).number (answer_at d i)
lines_next d layout i h =
    let b = before-length d layout i h in
    let more = rw b at (lines_more (before d i) (answers_to d i) (arrival_at d i) (answer_at d i) (answers-length d layout i h ∙ sym b)) in
    rw (answers_next d layout i h, before_more d layout i h, more) (sym
    (append_assoc (header_line layout.sent layout.arrivals) (record_lines (before d i) (answers_to d i)) _))

-- the listing goes on after record i
pub record Rest (d : Decoded) (layout : Layout) (i : ℕ) : Type 0 where
  pub rest : List ℕ
  pub is : sample_text d ≡ lines_to d layout i ++ rest

module _ (d : Decoded) (layout : Layout) (laid : FileLayout d layout) where
  -- up to the last record, with the last line, it is whole
  pub lines_end : lines_to d layout layout.arrivals ++ end_line (counts (answers_of d)) ≡ sample_text d
  unfolding listing_of
  lines_end =
      let many = arrivals-laid d layout laid in
      let l : before d layout.arrivals ≡ sample_arrivals d = take_all layout.arrivals (sample_arrivals d) (omega (arith, many)) in
      let m : answers_to d layout.arrivals ≡ answers_of d = answers-end d layout layout.arrivals laid (omega arith) in
      let k : layout.sent ≡ length (sample_of d).sizes = ap (λ (layout : Layout). layout.sent) laid.laid in
      rw (m, l, many, k) (append_assoc (header_line (length (sample_of d).sizes) (length (sample_arrivals d)))
      (record_lines (sample_arrivals d) (answers_of d)) _)

  -- up to any record it is a part of the whole
  pub lines_rest : (n i : ℕ) → n + i ≡ layout.arrivals → Rest d layout i
  lines_rest zero i e =
      let last : layout.arrivals ≡ i = omega arith in
      record {
        rest = end_line (counts (answers_of d));
        is = sym lines_end
            ∙ ap (λ (n : ℕ). lines_to d layout n ++ end_line (counts (answers_of d))) last;
      }
  lines_rest (suc n) i e =
      let r = lines_rest n (i + 1) (omega arith) in
      record {
        rest = record_line (i + 1) (arrival_at d i).number (answer_at d i) ++ r.rest;
        is =
            r.is ∙ rw (lines_next d layout i (record { file = laid; inside = omega arith }))
            (append_assoc (lines_to d layout i) _ r.rest);
      }

-- the counts have few digits
pub end-within : (d : Decoded) (layout : Layout) → FileLayout d layout → {c : Counts} → c ≡ counts (answers_of d) → CountsWithin c
end-within d layout h e =
    rw e (counts-within (answers_of d) (omega (arith, h.few, arrivals-laid d layout h, length-answers (size_of d) (sample_arrivals d))))

module _ (file : List ℕ) (layout : Layout) (laid : FileLayout (decode file) layout) (o : Octets file) where
  -- up to record i it has at most 24 octets for the first line and 61 for each record
  pub lines-within : (i : ℕ) → i ≤ layout.arrivals → length (lines_to (decode file) layout i) ≤ 24 + 61 * i
  lines-within zero h =
      rw (lines_start (decode file) layout)
      (omega (arith, header-octets layout.sent layout.arrivals (omega (arith, laid.sent_few)) (omega (arith, laid.few))))
  lines-within (suc i) h =
      let d = decode file in
      let r : HasRecord d layout i = record { file = laid; inside = omega arith } in
      let line =
      record-octets (i + 1) (arrival_at d i).number (answer_at d i) (omega (arith, laid.few))
      (omega (arith, laid.numbers i r.inside, laid.sent_few)) (answers-within file layout i o r) in
      let rest = lines-within i (omega arith) in
      let e : suc i ≡ i + 1 = omega arith in
      rw (e, lines_next d layout i r, length-append (lines_to d layout i) _) (omega arith)

  -- any listing has room in `listing_octets` octets
  pub sample-within : length (sample_text (decode file)) ≤ listing_octets
  sample-within =
      let d = decode file in
      let end = end-octets (counts (answers_of d)) (end-within d layout laid refl) in
      let lines = lines-within layout.arrivals (omega arith) in
      rw (← lines_end d layout laid, length-append (lines_to d layout layout.arrivals) _) (omega (arith, laid.few))
