-- Decoding, by its stages. Where the first refusal is 0 every stage's is (`each_none`), and conversely. So nothing of a section is
-- refused exactly if its count is there and passes and its items are all there (`stage-none`, `none-stage`), and nothing of a file
-- exactly if all that `WholeFile` lists holds (`refused_none`, `none-refused`). The answer follows from the first refusal alone
-- (`decode-refused`, `decode-accepted`, `accepted-decode`), and the counts of a whole file are the lengths of what its sections hold
-- (`layout-accepted`). Last, a refusal by the stage that refuses: where those before it are 0 it is the first.
-- Here r and n are refusals, s and t samples; in the last part p, o, q and r say that the label's section, its octets, the sent packets'
-- section and the arrivals' section are not refused. Assumes nothing.
use Prim.Native.Nat.{ℕ, zero, suc, ◌≤◌, ◌<◌}
use native.Mathlib.Omega.{arith}
use mathlib.Core.Bool.{true, false}
use mathlib.Core.Path.{◌≡◌, refl, ap, ◌∙◌}
use mathlib.Core.List.{List, [], ◌∷◌}
use borrow.Author.Tests.{le-ltb, ltb-false}
use lib.Dec.{ltb}
use lib.ListN.{length}
use Rattle.octets.specs.BigEndian.{be_value}
use Rattle.octets.proofs.Memory.{part_length}
use Rattle.rfc4737.specs.Refusals.{refusal_if, ends_early, octets_follow, long_label, octet_outside, sent_outside, many_arrivals}
use Rattle.rfc4737.specs.Judge.{sent_most, arrivals_most, judge_sent, judge_arrivals, judge}
use Rattle.sample.specs.Format.{Sample, label_most, octet_width, size_width, arrival_width, items_at, end_of}
use Rattle.sample.specs.Judge.{judge_label, some_unshown, judge_octets}
use Rattle.sample.specs.Decode.{count_at, label_count, sent_at, sent_count, arrived_at, arrival_count, file_end, arrival_in, sample_in, section_stage, file_refusal, refused, accepted, accepted_unless, decode, decoded_refusal, layout_of}
use Rattle.rfc4737.proofs.Due.{each_none, first-due, first_one, case-none, limit-none, not-outside}
use Rattle.sample.proofs.Items.{items-length}

-- a refusal for a number below another does not apply: it is not below
below_none : (m n r : ℕ) → 0 < r → refusal_if (ltb m n) r ≡ 0 → n ≤ m
below_none m n r h e = ltb-false m n (case-none (ltb m n) r h e)

-- ---- a section

-- what its stage judges
abbrev section_stages : ℕ → ℕ → (ℕ → ℕ) → List ℕ → List ℕ
section_stages at width judged file =
    refusal_if (ltb (length file) (items_at at)) ends_early ∷ judged (count_at at file)
    ∷ refusal_if (ltb (length file) (end_of at width (count_at at file))) ends_early ∷ []

-- nothing of it is refused: its count is there, is not refused, and its items are all there
pub stage-none : (at width : ℕ) (judged : ℕ → ℕ) (file : List ℕ) → section_stage at width judged file ≡ 0
    → (items_at at ≤ length file) × (judged (count_at at file) ≡ 0) × (end_of at width (count_at at file) ≤ length file)
unfolding section_stage
stage-none at width judged file e =
    let s = each_none (section_stages at width judged file) e in (
      below_none (length file) (items_at at) ends_early (omega arith) (s 0),
      s 1,
      below_none (length file) (end_of at width (count_at at file)) ends_early (omega arith) (s 2),
    )

-- and when that is so
pub none-stage : (at width : ℕ) (judged : ℕ → ℕ) (file : List ℕ) → judged (count_at at file) ≡ 0
    → end_of at width (count_at at file) ≤ length file
    → section_stage at width judged file ≡ 0
unfolding section_stage
none-stage at width judged file e h =
    let p : items_at at ≤ length file = omega arith in
    simp (le-ltb (length file) (items_at at) p, le-ltb (length file) (end_of at width (count_at at file)) h, e)

-- ---- a file

-- the stage of the label's section
abbrev pub label_stage : List ℕ → ℕ
label_stage file = section_stage 0 octet_width judge_label file

-- of the section of sent packets
abbrev pub sent_stage : List ℕ → ℕ
sent_stage file = section_stage (sent_at file) size_width judge_sent file

-- of the section of arrivals
abbrev pub arrived_stage : List ℕ → ℕ
arrived_stage file = section_stage (arrived_at file) arrival_width judge_arrivals file

-- of the file's end
abbrev pub end_stage : List ℕ → ℕ
end_stage file = refusal_if (ltb (file_end file) (length file)) octets_follow

-- of the arrivals in turn
abbrev pub arrivals_stage : List ℕ → ℕ
arrivals_stage file = judge (sent_count file) 0 (sample_in file).arrivals

-- what holds of a file of which nothing is refused
pub record WholeFile (file : List ℕ) : Type 0 where
  pub label_fits : label_count file ≤ label_most
  pub shown : some_unshown (sample_in file).label ≡ false
  pub sent_some : 1 ≤ sent_count file
  pub sent_fits : sent_count file ≤ sent_most
  pub arrivals_fit : arrival_count file ≤ arrivals_most
  pub ends : file_end file ≡ length file
  pub judged : judge (sent_count file) 0 (sample_in file).arrivals ≡ 0

-- nothing is refused: all of that holds
pub refused_none : (file : List ℕ) → file_refusal file ≡ 0 → WholeFile file
unfolding file_refusal
refused_none file e =
    let s =
    each_none (label_stage file ∷ judge_octets (sample_in file).label ∷ sent_stage file ∷ arrived_stage file ∷ end_stage file
    ∷ arrivals_stage file ∷ []) e in
    let l = stage-none 0 octet_width judge_label file (s 0) in
    let k = stage-none (sent_at file) size_width judge_sent file (s 2) in
    let a = stage-none (arrived_at file) arrival_width judge_arrivals file (s 3) in
    let p = limit-none 0 label_most (label_count file) long_label (omega arith) l.1 in
    let q = limit-none 1 sent_most (sent_count file) sent_outside (omega arith) k.1 in
    let r = limit-none 0 arrivals_most (arrival_count file) many_arrivals (omega arith) a.1 in
    let t : length file ≤ file_end file = below_none (file_end file) (length file) octets_follow (omega arith) (s 4) in
    let u : file_end file ≤ length file = a.2 in
    record {
      label_fits = p.1;
      shown = case-none (some_unshown (sample_in file).label) octet_outside (omega arith) (s 1);
      sent_some = q.0;
      sent_fits = q.1;
      arrivals_fit = r.1;
      ends = omega arith;
      judged = s 5;
    }

-- all of that holds: nothing is refused
pub none-refused : (file : List ℕ) → WholeFile file → file_refusal file ≡ 0
unfolding file_refusal
none-refused file w =
    let e = w.ends in
    let p : label_stage file ≡ 0 =
    none-stage 0 octet_width judge_label file (simp (not-outside 0 label_most (label_count file) (omega arith) w.label_fits))
    (omega arith) in
    let q : sent_stage file ≡ 0 =
    none-stage (sent_at file) size_width judge_sent file (simp (not-outside 1 sent_most (sent_count file) w.sent_some w.sent_fits))
    (omega arith) in
    let r : arrived_stage file ≡ 0 =
    none-stage (arrived_at file) arrival_width judge_arrivals file (simp
    (not-outside 0 arrivals_most (arrival_count file) (omega arith) w.arrivals_fit)) (omega arith) in
    let f : ltb (file_end file) (length file) ≡ false = le-ltb (file_end file) (length file) (omega arith) in
    simp (p, w.shown, q, r, f, w.judged)

-- ---- the answer

-- a refusal of an answer is the one that applied
pub decided-refusal : (r : ℕ) (s : Sample) → decoded_refusal (accepted_unless r s) ≡ r
decided-refusal zero s = refl
decided-refusal (suc r) s = refl

-- a refusal that applies
pub decode-refused : (file : List ℕ) (r : ℕ) → 0 < r → file_refusal file ≡ r → decode file ≡ refused r
unfolding decode
decode-refused file zero h e = absurd (omega arith)
decode-refused file (suc r) h e = rw e

-- no refusal applies
pub decode-accepted : (file : List ℕ) → file_refusal file ≡ 0 → decode file ≡ accepted (sample_in file)
unfolding decode
decode-accepted file e = rw e

-- an answer that accepts
decided-accepted : (r : ℕ) (s t : Sample) → accepted_unless r s ≡ accepted t → (r ≡ 0) × (s ≡ t)
decided-accepted zero s t e = (refl, cc)
decided-accepted (suc r) s t e = absurd (let z : ◌≡◌ {A = ℕ} 0 1 = cc in omega arith)

-- an accepted file: nothing is refused, and the sample is what its sections hold
pub accepted-decode : (file : List ℕ) (s : Sample) → decode file ≡ accepted s → (file_refusal file ≡ 0) × (sample_in file ≡ s)
unfolding decode
accepted-decode file s e = decided-accepted (file_refusal file) (sample_in file) s e

-- the counts are the lengths of what the sections hold: of the label
pub label-length : (file : List ℕ) → WholeFile file → length (sample_in file).label ≡ label_count file
unfolding sample_in
label-length file w =
    let e = w.ends in
    part_length (items_at 0) (label_count file) file (omega arith)

-- of the sizes
pub sizes-length : (file : List ℕ) → length (sample_in file).sizes ≡ sent_count file
unfolding sample_in
sizes-length file = items-length size_width be_value (sent_count file) _

-- of the arrivals
pub arrivals-number : (file : List ℕ) → length (sample_in file).arrivals ≡ arrival_count file
unfolding sample_in
arrivals-number file = items-length arrival_width arrival_in (arrival_count file) _

-- the layout of a file of which nothing is refused
pub layout-accepted : (file : List ℕ) → file_refusal file ≡ 0
    → layout_of (decode file) ≡ record { refusal = 0; label = label_count file; sent = sent_count file; arrivals = arrival_count file }
layout-accepted file e =
    let p = label-length file (refused_none file e) in
    let q = sizes-length file in
    let r = arrivals-number file in
    ap layout_of (decode-accepted file e) ∙ (λ i. record { refusal = 0; label = p i; sent = q i; arrivals = r i })

-- ---- a refusal, by the stage that refuses

module _ (file : List ℕ) (p : label_stage file ≡ 0) where
  module _ (o : some_unshown (sample_in file).label ≡ false) where
    module _ (q : sent_stage file ≡ 0) where
      module _ (r : arrived_stage file ≡ 0) where
        -- octets follow the last section
        pub refused_end : (n : ℕ) → 0 < n → end_stage file ≡ n → file_refusal file ≡ n
        unfolding file_refusal
        refused_end n h e = simp (p, o, q, r, e) (first-due n (arrivals_stage file ∷ []) h)

        -- an arrival is refused, or nothing is
        pub refused-arrivals : (n : ℕ) → end_stage file ≡ 0 → arrivals_stage file ≡ n → file_refusal file ≡ n
        unfolding file_refusal
        refused-arrivals n e f = simp (p, o, q, r, e, f) (first_one n)

      -- the section of arrivals is refused
      pub refused-arrived : (n : ℕ) → 0 < n → arrived_stage file ≡ n → file_refusal file ≡ n
      unfolding file_refusal
      refused-arrived n h e = simp (p, o, q, e) (first-due n (end_stage file ∷ arrivals_stage file ∷ []) h)

    -- the section of sent packets is refused
    pub refused-sent : (n : ℕ) → 0 < n → sent_stage file ≡ n → file_refusal file ≡ n
    unfolding file_refusal
    refused-sent n h e = simp (p, o, e) (first-due n (arrived_stage file ∷ end_stage file ∷ arrivals_stage file ∷ []) h)

  -- an octet of the label cannot be shown
  pub refused-octets : some_unshown (sample_in file).label ≡ true → file_refusal file ≡ octet_outside
  unfolding file_refusal
  refused-octets o = simp (p, o)

-- the section of the label is refused
pub refused-label : (file : List ℕ) (n : ℕ) → 0 < n → label_stage file ≡ n → file_refusal file ≡ n
unfolding file_refusal
refused-label file n h e =
    simp e (first-due n (judge_octets (sample_in file).label ∷ sent_stage file ∷ arrived_stage file ∷ end_stage file ∷ arrivals_stage file
    ∷ []) h)
