-- The lines of a section, one after the other (`lines_next`), from figures that are those of the answers (`section-of`). The line of a
-- record is determined by its gap as a number (`gap-line`). After `metrics::record_gaps` a list of zeros holds the numbers of all gaps
-- (`gap-list`): it is long enough for any sample, and the entries after the last record stay 0 (`over_zeros`). l are the answers, n is a
-- record or the number of lines written, d the decoded file, y its layout. Assumes nothing.
use Rattle.std.specs.Prelude.{None}
use Prim.Native.Nat.{ℕ, zero, suc, ◌+◌, ◌-◌, ◌≤◌, ◌<◌}
use native.Mathlib.Numerals.{add-one}
use native.Mathlib.Omega.{arith}
use mathlib.Core.Path.{◌≡◌, refl, sym, ap, ◌∙◌}
use mathlib.Core.Bool.{Bool, true, false}
use mathlib.Core.List.{List, [], ◌++◌, append-nil}
use lib.Dec.{leb}
use lib.ListN.{length, take, drop, get_or, replicate, length-take, get_or-append, get_or-eq_default}
use lib.Seq.{get_or-append-add, get_or-take, get_or-drop}
use borrow.Author.Tests.{ne_eqb, le-ltb, leb-true, leb-false}
use Rattle.octets.specs.Memory.{part, over}
use Rattle.octets.proofs.Memory.{part_length}
use Rattle.rfc4737.specs.declared.Answer.{Answer}
use Rattle.rfc4737.specs.Tally.{tally}
use Rattle.rfc4737.specs.Gaps.{Gap, gaps}
use Rattle.rfc4737.proofs.Lists.{zeros}
use Rattle.sample.specs.declared.Layout.{Layout}
use Rattle.sample.specs.Decode.{Decoded, refused, accepted}
use Rattle.sample.specs.Calls.{unless_short}
use Rattle.metrics.specs.Sample.{sample_arrivals, answers_of}
use Rattle.metrics.specs.declared.SampleCounts.{SampleCounts}
use Rattle.metrics.specs.declared.SampleTally.{SampleTally}
use Rattle.metrics.specs.Figures.{at_record, record_gap, sample_counts, sample_tally}
use Rattle.metrics.specs.Gaps.{number_gap, gap_numbers, gaps_into, GapsTo, GapsTell}
use Rattle.metrics.specs.Records.{FileLayout}
use Rattle.metrics.proofs.TablesFollow.{arrivals-laid}
use Rattle.summary.specs.declared.all.Kind.{Kind}
use Rattle.summary.specs.All.{pair_line, extent_line, gap_line, section_line, lines_to, section}
use Rattle.summary.specs.Private.Lines.{figure_line, figure_lines, DegreesOf, FiguresOf}
use Rattle.summary.proofs.Counted.{ran, tallied}

-- ---- lines

-- a gap as a number has the line of the gap
number-line : (n g : ℕ) → extent_line n g ≡ gap_line n (number_gap g)
unfolding extent_line gap_line
number-line n zero = refl
number-line n (suc g) = rw (ne_eqb (suc g) 0 (λ z. omega (arith, z)))

gap-line : (n g : ℕ) (gap : Gap) → number_gap g ≡ gap → extent_line n g ≡ gap_line n gap
gap-line n g gap e = number-line n g ∙ ap (gap_line n) e

module _ (kind : Kind) (figures : List ℕ) where
  pub lines_none : [] ≡ figure_lines kind figures 0
  unfolding figure_lines
  lines_none = refl

  pub lines_next : (n : ℕ) → figure_lines kind figures n ++ figure_line kind (n + 1) (get_or figures n 0) ≡ figure_lines kind figures (n + 1)
  unfolding figure_lines
  lines_next n = rw add-one

  module _ (l : List Answer) where
    -- lines of figures that are those of the answers
    lines_of : (n : ℕ) → ((k : ℕ) → k < n → figure_line kind (suc k) (get_or figures k 0) ≡ section_line kind l (suc k))
        → figure_lines kind figures n ≡ lines_to kind l n
    unfolding figure_lines lines_to
    lines_of zero same = refl
    lines_of (suc n) same = rw (lines_of n (λ k h. same k (omega (arith, h))), same n (omega arith))

    section-of : (head : List ℕ) (n : ℕ) → length figures ≡ n
        → ((k : ℕ) → k < n → figure_line kind (suc k) (get_or figures k 0) ≡ section_line kind l (suc k))
        → head ++ figure_lines kind figures (length figures) ≡ section head kind l n
    unfolding section
    section-of head n long same = rw (long, lines_of n same, append-nil (lines_to kind l n))

-- the sections: extents, n-reordered packets, gaps
module _ (head : List ℕ) (l : List Answer) where
  pub extent-section : (t : List ℕ) → length t ≡ 101 → t ≡ tally l
      → head ++ figure_lines Kind.Extent (part 1 100 t) (length (part 1 100 t)) ≡ section head Kind.Extent l 100
  unfolding figure_line section_line
  extent-section t long e =
      section-of Kind.Extent (part 1 100 t) l head 100 (part_length 1 100 t (omega (arith, long)))
      (λ k h.
      let suc-k : 1 + k ≡ suc k = omega arith in
      let read : get_or (part 1 100 t) k 0 ≡ get_or (tally l) (suc k) 0 =
      get_or-take 100 (drop 1 t) k 0 h ∙ get_or-drop 1 t k 0 ∙ ap (λ (n : ℕ). get_or t n 0) suc-k ∙ ap (λ (t : List ℕ). get_or t (suc k) 0) e in
      ap (extent_line (suc k)) read)

  pub degree-section : (list : List ℕ) → length list ≡ 10 → DegreesOf l list
      → head ++ figure_lines Kind.Degree list (length list) ≡ section head Kind.Degree l 10
  unfolding figure_line section_line
  degree-section list long known = section-of Kind.Degree list l head 10 long (λ k h. ap (pair_line (suc k)) (known.at k h))

  pub gap-section : (list : List ℕ) → ((k : ℕ) → k < length list → number_gap (get_or list k 0) ≡ at_record None (gaps l) (suc k))
      → head ++ figure_lines Kind.Gap list (length list) ≡ section head Kind.Gap l (length list)
  unfolding figure_line section_line
  gap-section list known =
      section-of Kind.Gap list l head (length list) refl (λ k h. gap-line (suc k) (get_or list k 0) _ (known k h))

-- ---- the list of gaps

-- numbers written over the start of zeros: any entry is that of the numbers, and 0 after their end
over_zeros : (xs : List ℕ) (m i : ℕ) → get_or (over xs (replicate m 0)) i 0 ≡ get_or xs i 0
over_zeros xs m i = go (leb (length xs) i) refl
  where
    go : (b : Bool) → leb (length xs) i ≡ b → get_or (over xs (replicate m 0)) i 0 ≡ get_or xs i 0
    go true e =
        let h : length xs ≤ i = leb-true (length xs) i e in
        let k : length xs + (i - length xs) ≡ i = omega arith in
        ap (λ (i : ℕ). get_or (over xs (replicate m 0)) i 0) (sym k)
        ∙ get_or-append-add xs (drop (length xs) (replicate m 0)) (i - length xs) 0
        ∙ get_or-drop (length xs) (replicate m 0) (i - length xs) 0
        ∙ zeros m (length xs + (i - length xs))
        ∙ sym (get_or-eq_default xs 0 h)
    go false e = get_or-append xs (drop (length xs) (replicate m 0)) 0 i (omega (arith, leb-false (length xs) i e))

-- if the list is long enough, the file is not refused for it
room : (b : Bool) (d : Decoded) → b ≡ false → unless_short b d ≡ d
unfolding unless_short
room b (refused r) e = refl
room b (accepted s) e = rw e

module _ (d : Decoded) (y : Layout) (h : FileLayout d y) where
  all-into : gaps_into d 4096 ≡ d
  all-into = room _ d (le-ltb 4096 (length (sample_arrivals d)) (omega (arith, arrivals-laid d y h, h.few)))

  -- the numbers of all gaps stand in the list, and in a part of it for all records
  gap-list : (answer : Layout) (new : List ℕ) → GapsTo d (replicate 4096 0) answer new → GapsTell
      → (k : ℕ) → k < length (take y.arrivals new)
      → number_gap (get_or (take y.arrivals new) k 0) ≡ at_record None (gaps (answers_of d)) (suc k)
  unfolding record_gap at_record
  gap-list answer new t tell k inside =
      let filled : new ≡ over (gap_numbers (answers_of d)) (replicate 4096 0) =
      t.gaps ∙ ap (λ (d : Decoded). over (gap_numbers (answers_of d)) (replicate 4096 0)) all-into in
      let few : k < y.arrivals = omega (arith, inside, length-take y.arrivals new) in
      ap number_gap (get_or-take y.arrivals new k 0 few ∙ ap (λ (l : List ℕ). get_or l k 0) filled
      ∙ over_zeros (gap_numbers (answers_of d)) 4096 k)
      ∙ tell.at d (suc k)

  -- all figures, from the answers of the calls
  pub figures-known : {t : SampleTally} {degrees new : List ℕ} {answer : Layout} {k : SampleCounts} → t ≡ sample_tally d
      → DegreesOf (answers_of d) degrees → GapsTo d (replicate 4096 0) answer new → GapsTell → k ≡ sample_counts d
      → FiguresOf (answers_of d) t.tally degrees (take y.arrivals new) k.counts.runs
  figures-known {t} {degrees} {new} {answer} {k} e reordered g tell f =
      record {
        counts = record { extents = tallied d t e; reordered = reordered };
        gap = gap-list answer new g tell;
        ran = ran d k f;
      }
