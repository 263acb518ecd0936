-- A log that is not refused. An answer without a refusal means that the first line decodes, is not the 4,097th and is not refused, and
-- that the others are so from the next reference on (`first-accepted`, `none-malformed`). Line by line (`accepted-lines`, by induction on
-- the decoded lines with the count and the reference carried along) `AcceptedLines` collects what holds then: the answer, the judge's, how
-- many there are. With K in its range (`accepted-decoded`) their arrivals are not refused as lists (`accepted-lists`). Lines that decode
-- have the form and times that fit (`formed-lines`), so a log that is not refused has it (`accepted-form`); with K payload sizes of one
-- size its arrivals are a fit sample (`fit-sample`), which the sample's writer refuses with nothing but 8 and whose file decodes to it
-- (`fit-log`).
-- Here k is K, l a line and ls lines, ds what lines decode to, a the arrival of a line, s a sample. Assumes nothing.
use Prim.Native.Nat.{ℕ, zero, suc, ◌+◌, ◌^◌, ◌≤◌, ◌<◌}
use native.Mathlib.Nat.{add-zero, zero-add}
use native.Mathlib.Omega.{arith}
use mathlib.Core.Path.{◌≡◌, refl, sym, ap, ◌∙◌, subst}
use mathlib.Core.List.{List, [], ◌∷◌, ◌++◌, map, flatten}
use borrow.Author.Tests.{leb-false}
use lib.Dec.{leb, ltb}
use lib.ListN.{length, get_or, take, length-map, replicate, length-replicate}
use Rattle.octets.specs.Below.{Below}
use Rattle.octets.specs.Text.{lines}
use Rattle.octets.proofs.Below.{below-nil, below-cons}
use Rattle.octets.proofs.Text.{lines-joined}
use Rattle.rfc4737.specs.declared.Arrival.{Arrival}
use Rattle.rfc4737.specs.Judge.{sent_most, arrivals_most, numbers_of, times_of, arrivals_from, judge_one, judge, judge_sent, refusal_of_lists}
use Rattle.rfc4737.specs.Refusals.{refusal_if, many_arrivals, sent_outside, output_short, line_malformed}
use Rattle.rfc4737.specs.Times.{next_reference}
use Rattle.rfc4737.proofs.Due.{first-none, first_next, first_one, case-none, not-outside, limit-none}
use Rattle.rfc4737.proofs.Judged.{fit-lists}
use Rattle.rfc4737.proofs.Pairs.{arrivals-back}
use Rattle.sample.specs.Format.{Sample, label_most, file_of}
use Rattle.sample.specs.Judge.{judge_label, some_unshown, sample_refusal, FitSample}
use Rattle.sample.specs.Decode.{decode, accepted}
use Rattle.sample.specs.Calls.{WrittenTo}
use Rattle.sample.specs.declared.WriteAnswer.{WriteAnswer}
use Rattle.sample.proofs.Exact.{decode-file}
use Rattle.sample.proofs.Output.{refusal_into, output-read}
use Rattle.textlog.specs.Form.{Log, none, after}
use Rattle.textlog.specs.Decode.{DecodedLine, malformed, arrived, decode_line, decoded_lines, arrival_or0, arrivals_of_lines, log_arrivals, judge_line, judge_lines, judge_decoded, judge_log}
use Rattle.textlog.specs.declared.LogJudgement.{LogJudgement}
use Rattle.textlog.specs.RoundTrip.{sample_with, Writable, ImportedIsFit}
use Rattle.textlog.proofs.Lines.{decoded}
use Rattle.textlog.proofs.Judging.{unless-split, judge-first}
use Rattle.textlog.proofs.Turns.{lines-length}

-- ---- the first of decoded lines of which none is refused

-- it is among the first 4,096, its arrival is not refused, and those after it decide
pub record FirstAccepted (k count reference : ℕ) (a : Arrival) (ds : List DecodedLine) : Type 0 where
  pub few : count < arrivals_most
  pub one : judge_one k reference a ≡ 0
  pub others : judge_lines k count reference (arrived a ∷ ds) ≡ judge_lines k (count + 1) (next_reference reference a.time) ds
  pub rest : (judge_lines k (count + 1) (next_reference reference a.time) ds).refusal ≡ 0

pub first-accepted : (k count reference : ℕ) (a : Arrival) (ds : List DecodedLine)
    → (judge_lines k count reference (arrived a ∷ ds)).refusal ≡ 0
    → FirstAccepted k count reference a ds
first-accepted k count reference a ds e =
    let y = judge-first k count reference ds (arrived a) in
    let s =
    unless-split (judge_line k count reference (arrived a)) (count + 1)
    (judge_lines k (count + 1) (next_reference reference a.time) ds) (ap (λ (y : LogJudgement). y.refusal) (sym y) ∙ e) in
    let p = first-none (refusal_if (leb arrivals_most count) many_arrivals) (judge_one k reference a ∷ []) s.0 in
    record {
      few = leb-false arrivals_most count (case-none (leb arrivals_most count) many_arrivals (omega arith) p.0);
      one = sym (first_one (judge_one k reference a)) ∙ p.1;
      others = y ∙ s.1;
      rest = s.2;
    }

-- no malformed line is
pub none-malformed : (k count reference : ℕ) (ds : List DecodedLine) → (judge_lines k count reference (malformed ∷ ds)).refusal ≡ 0 → ⊥
none-malformed k count reference ds e =
    let z : ◌≡◌ {A = ℕ} line_malformed 0 = ap (λ (y : LogJudgement). y.refusal) (sym (judge-first k count reference ds malformed)) ∙ e in
    omega arith

-- ---- decoded lines of which none is refused

-- what holds of them, where `count` lines come before them
pub record AcceptedLines (k count reference : ℕ) (ds : List DecodedLine) : Type 0 where
  pub answer : judge_lines k count reference ds ≡ record { refusal = 0; arrivals = count + length ds; line = 0 }
  pub decodes : (j : ℕ) → j < length ds → get_or ds j malformed ≡ malformed → ⊥
  pub judged : judge k reference (arrivals_of_lines ds) ≡ 0
  pub few : count + length ds ≤ arrivals_most

-- no line
no_lines : (k count reference : ℕ) → count ≤ arrivals_most → AcceptedLines k count reference []
unfolding judge_lines judge arrivals_of_lines
no_lines k count reference h =
    record {
      answer = ap (λ (n : ℕ). record { refusal = 0; arrivals = n; line = 0 }) (sym (add-zero count));
      decodes = λ j b m. omega arith;
      judged = refl;
      few = omega arith;
    }

-- a line of which nothing is refused, and others
one_line : (k count reference : ℕ) (a : Arrival) (ds : List DecodedLine) → judge_one k reference a ≡ 0
    → judge_lines k count reference (arrived a ∷ ds) ≡ judge_lines k (count + 1) (next_reference reference a.time) ds
    → AcceptedLines k (count + 1) (next_reference reference a.time) ds → AcceptedLines k count reference (arrived a ∷ ds)
unfolding judge arrivals_of_lines
one_line k count reference a ds j y r =
    let n : count + 1 + length ds ≡ count + suc (length ds) = omega arith in
    record {
      answer = y ∙ r.answer ∙ ap (λ (n : ℕ). record { refusal = 0; arrivals = n; line = 0 }) n;
      decodes = first;
      judged =
          first_next (judge_one k reference a) (judge k (next_reference reference a.time) (arrivals_of_lines ds) ∷ []) j ∙ first_one _
          ∙ r.judged;
      few = omega (arith, r.few);
    }
  where
    first : (i : ℕ) → i < suc (length ds) → get_or (arrived a ∷ ds) i malformed ≡ malformed → ⊥
    first zero b m = absurd (let z : ◌≡◌ {A = ℕ} 0 1 = cc in omega arith)
    first (suc i) b m = r.decodes i (omega arith) m

-- so it is with all lines of an answer without a refusal
accepted-lines : (k count reference : ℕ) (ds : List DecodedLine) → count ≤ arrivals_most → (judge_lines k count reference ds).refusal ≡ 0
    → AcceptedLines k count reference ds
accepted-lines k count reference [] h e = no_lines k count reference h
accepted-lines k count reference (malformed ∷ ds) h e = absurd (none-malformed k count reference ds e)
accepted-lines k count reference (arrived a ∷ ds) h e =
    let s = first-accepted k count reference a ds e in
    one_line k count reference a ds s.one s.others (accepted-lines k (count + 1) (next_reference reference a.time) ds
    (omega (arith, s.few)) s.rest)

-- ---- a log by its decoded lines

-- what holds of decoded lines of which, with K, nothing is refused
pub record AcceptedDecoded (k : ℕ) (ds : List DecodedLine) : Type 0 where
  pub least : 1 ≤ k
  pub most : k ≤ sent_most
  pub answer : judge_decoded k ds ≡ record { refusal = 0; arrivals = length ds; line = 0 }
  pub lines : (judge_lines k 0 0 ds).refusal ≡ 0
  pub in_turn : AcceptedLines k 0 0 ds

pub accepted-decoded : (k : ℕ) (ds : List DecodedLine) → (judge_decoded k ds).refusal ≡ 0 → AcceptedDecoded k ds
unfolding judge_decoded
accepted-decoded k ds e =
    let s = unless-split (judge_sent k) 0 (judge_lines k 0 0 ds) e in
    let a = accepted-lines k 0 0 ds (omega arith) s.2 in
    let b = limit-none 1 sent_most k sent_outside (omega arith) s.0 in
    record {
      least = b.0;
      most = b.1;
      answer = s.1 ∙ a.answer ∙ ap (λ (n : ℕ). record { refusal = 0; arrivals = n; line = 0 }) (zero-add (length ds));
      lines = s.2;
      in_turn = a;
    }

-- their arrivals, as lists, are not refused
pub accepted-lists : (k : ℕ) (ds : List DecodedLine) → (judge_decoded k ds).refusal ≡ 0
    → refusal_of_lists k (numbers_of (arrivals_of_lines ds)) (times_of (arrivals_of_lines ds)) ≡ 0
accepted-lists k ds e =
    let a = accepted-decoded k ds e in
    let n : length (numbers_of (arrivals_of_lines ds)) ≡ length (arrivals_of_lines ds) = length-map (arrivals_of_lines ds) _ in
    let t : length (times_of (arrivals_of_lines ds)) ≡ length (arrivals_of_lines ds) = length-map (arrivals_of_lines ds) _ in
    fit-lists k (numbers_of (arrivals_of_lines ds)) (times_of (arrivals_of_lines ds)) a.least a.most
    (omega (arith, lines-length ds, a.in_turn.few)) (t ∙ sym n)
    (ap (judge k 0) (arrivals-back (arrivals_of_lines ds)) ∙ a.in_turn.judged)

-- ---- a log by its octets

-- lines that decode: their form, and times that fit
pub record FormedLines (ls : List (List ℕ)) : Type 0 where
  pub form : Log (flatten ls) (arrivals_of_lines (map decode_line ls))
  pub times : Below (2 ^ 64) (times_of (arrivals_of_lines (map decode_line ls)))

no-formed : FormedLines []
unfolding flatten arrivals_of_lines
no-formed = record { form = none; times = below-nil (2 ^ 64) (omega arith) }

one-formed : (l : List ℕ) (ls : List (List ℕ)) (a : Arrival) → decode_line l ≡ arrived a → FormedLines ls → FormedLines (l ∷ ls)
unfolding flatten arrivals_of_lines
one-formed l ls a d r =
    let f = decoded l a d in
    let same : arrivals_of_lines (map decode_line (l ∷ ls)) ≡ a ∷ arrivals_of_lines (map decode_line ls) =
    ap (λ (x : DecodedLine). arrival_or0 x ∷ arrivals_of_lines (map decode_line ls)) d in
    let fits : Below (2 ^ 64) (times_of (a ∷ arrivals_of_lines (map decode_line ls))) =
    below-cons (2 ^ 64) a.time (times_of (arrivals_of_lines (map decode_line ls))) (omega (arith, f.time)) r.times in
    record {
      form = subst (λ (x : List Arrival). Log (l ++ flatten ls) x) (sym same) (after f r.form);
      times = subst (λ (x : List Arrival). Below (2 ^ 64) (times_of x)) (sym same) fits;
    }

formed-lines : (ls : List (List ℕ)) → ((j : ℕ) → j < length (map decode_line ls) → get_or (map decode_line ls) j malformed ≡ malformed → ⊥)
    → FormedLines ls
formed-lines [] d = no-formed
formed-lines (l ∷ ls) d = go (decode_line l) refl (formed-lines ls (λ j b m. d (suc j) (omega arith) m))
  where
    go : (x : DecodedLine) → decode_line l ≡ x → FormedLines ls → FormedLines (l ∷ ls)
    go malformed e r = absurd (d 0 (omega arith) e)
    go (arrived a) e r = one-formed l ls a e r

module _ (k : ℕ) (log : List ℕ) (e : (judge_log k log).refusal ≡ 0) where
  formed : FormedLines (lines log)
  formed = formed-lines (lines log) (accepted-decoded k (decoded_lines log) e).in_turn.decodes

  -- it has the form of its arrivals
  pub accepted-form : Log log (log_arrivals log)
  accepted-form = subst (λ (x : List ℕ). Log x (log_arrivals log)) (lines-joined log) formed.form

  -- with K payload sizes of one size, they are a fit sample
  fit-sample : (size : ℕ) → size < 2 ^ 16 → FitSample (sample_with k size (log_arrivals log))
  unfolding sample_refusal some_unshown
  fit-sample size h =
      let m : length (replicate k size) ≡ k = length-replicate k size in
      let z : judge_label 0 ≡ 0 = rw (not-outside 0 label_most 0 (omega arith) (omega arith)) in
      record {
        judged = rw (z, m, accepted-lists k (decoded_lines log) e);
        sizes = below-replicate k;
        times = formed.times;
      }
    where
      below-replicate : (n : ℕ) → Below (2 ^ 16) (replicate n size)
      below-replicate zero = below-nil (2 ^ 16) (omega arith)
      below-replicate (suc n) = below-cons (2 ^ 16) size (replicate n size) h (below-replicate n)

-- ---- a fit sample as the sample's writer writes it

module _ (s : Sample) (fit : FitSample s) where
  -- from its lists, it is the sample
  same : file_of (record { label = s.label; sizes = s.sizes; arrivals = arrivals_from (numbers_of s.arrivals) (times_of s.arrivals) })
      ≡ file_of s
  same = ap (λ (l : List Arrival). file_of (record { label = s.label; sizes = s.sizes; arrivals = l })) (arrivals-back s.arrivals)

  -- only 8 applies
  short-alone : (room : ℕ)
      → refusal_into (sample_refusal s.label s.sizes (numbers_of s.arrivals) (times_of s.arrivals))
      (file_of (record {
        label = s.label;
        sizes = s.sizes;
        arrivals = arrivals_from (numbers_of s.arrivals)
            (times_of s.arrivals);
      })) room
      ≡ refusal_if (ltb room (length (file_of s))) output_short
  short-alone room = rw (fit.judged, same) (first_one _)

  fit-writable : Writable s
  fit-writable = record { fit = fit; refusal = λ out out' written w. w.refusal ∙ short-alone (length out); decodes = written-decodes }
    where
      written-decodes : (out out' : List ℕ) (written : WriteAnswer)
          → WrittenTo s.label s.sizes (numbers_of s.arrivals) (times_of s.arrivals) out written out'
          → written.refusal ≡ 0 → decode (take written.length out') ≡ accepted s
      written-decodes out out' written w z =
          ap decode (output-read (sample_refusal s.label s.sizes (numbers_of s.arrivals) (times_of s.arrivals)) _ out w z ∙ same)
          ∙ decode-file s fit

-- the arrivals of a log that is not refused are such a sample
pub fit-log : (k : ℕ) (log : List ℕ) → ImportedIsFit k log
fit-log k log size h e = fit-writable (sample_with k size (log_arrivals log)) (fit-sample k log e size h)
