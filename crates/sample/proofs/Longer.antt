-- Files beside the longest sample. A longer file is refused by the first test that fails: of the label's count (3), of its octets (13),
-- of K (4), of the count of arrivals (5). If none fails, all sections end by the longest sample's length, and octets follow (2). No count
-- or section can be missing, since what passes the tests asks for no more octets than there are. All that is tested stands in the first
-- 57,415 octets, so these are refused alike (`longer-refused`, by the same tests in turn). A sample filled up to the limits is fit, and
-- its file is as long as the longest (`filled-fit`, `filled-length`).
-- Here f is a file longer than the longest sample, by h; a, o and b say that its label's count, its octets and K pass; k, l, n, s and r
-- say of its beginning that it is longer too and has the same count of the label, label, K and count of arrivals. Assumes nothing.
use Prim.Native.Nat.{ℕ, zero, suc, ◌+◌, ◌-◌, ◌^◌, ◌≤◌, ◌<◌}
use native.Mathlib.Omega.{arith}
use mathlib.Core.Bool.{Bool, true, false}
use mathlib.Core.Path.{◌≡◌, refl, sym, ap, ◌∙◌}
use mathlib.Core.List.{List, [], ◌∷◌}
use borrow.Author.Tests.{le-ltb, lt-ltb}
use lib.Dec.{ltb}
use lib.ListN.{length, take, drop, length-take, replicate, length-replicate}
use lib.Seq.{take-take}
use Rattle.octets.specs.Below.{Below, Octets}
use Rattle.octets.specs.BigEndian.{be_value}
use Rattle.octets.specs.Memory.{part}
use Rattle.octets.proofs.Below.{below-nil, below-cons}
use Rattle.octets.proofs.Memory.{drop-take}
use Rattle.rfc4737.specs.declared.Arrival.{Arrival}
use Rattle.rfc4737.specs.Times.{too_early, next_reference}
use Rattle.rfc4737.specs.Refusals.{outside, refusal_if, ends_early, octets_follow, long_label, octet_outside, sent_outside, many_arrivals}
use Rattle.rfc4737.specs.Judge.{sent_most, arrivals_most, times_of, judge_sent, judge_arrivals, judge_one, judge}
use Rattle.sample.specs.Format.{file_of, label_most, shown_least, longest, count_width, octet_width, size_width, arrival_width, items_at, end_of, last_end}
use Rattle.sample.specs.Judge.{judge_label, some_unshown, FitSample}
use Rattle.sample.specs.Decode.{count_at, label_count, sent_at, sent_count, arrived_at, arrival_count, file_end, sample_in, section_stage, file_refusal, Decoded, decode, decoded_refusal}
use Rattle.sample.specs.RoundTrip.{filled, among, Lengths}
use Rattle.rfc4737.proofs.Due.{between, not-outside, first-due}
use Rattle.sample.proofs.Decoded.{label_stage, sent_stage, none-stage, decode-refused, refused-label, refused-octets, refused-sent, refused-arrived, refused_end}
use Rattle.sample.proofs.Exact.{within-limits, file-length, decode-file}
use Rattle.sample.proofs.Shown.{spaces-shown}
use Rattle.sample.proofs.Accepted.{accepted-most}

-- a count that is refused
stage-judged : (at width : ℕ) (judged : ℕ → ℕ) (file : List ℕ) (r : ℕ) → items_at at ≤ length file → 0 < r → judged (count_at at file) ≡ r
    → section_stage at width judged file ≡ r
unfolding section_stage
stage-judged at width judged file r h p e =
    simp (
      le-ltb (length file) (items_at at) h,
      e,
    ) (first-due r (refusal_if (ltb (length file) (end_of at width (count_at at file))) ends_early ∷ []) p)

-- a count that is not refused, of a section that the file has
stage-passed : (at width least most r : ℕ) (file : List ℕ) → outside least most (count_at at file) ≡ false
    → end_of at width (count_at at file) ≤ length file
    → section_stage at width (λ (n : ℕ). refusal_if (outside least most n) r) file ≡ 0
stage-passed at width least most r file e h =
    none-stage at width (λ (n : ℕ). refusal_if (outside least most n) r) file (ap (λ (t : Bool). refusal_if t r) e) h

-- ---- a file longer than the longest sample

module _ (f : List ℕ) (h : longest < length f) where
  -- a long label
  three : outside 0 label_most (label_count f) ≡ true → file_refusal f ≡ long_label
  three t =
      refused-label f long_label (omega arith) (stage-judged 0 octet_width judge_label f long_label (omega arith) (omega arith)
      (ap (λ (b : Bool). refusal_if b long_label) t))

  module _ (a : outside 0 label_most (label_count f) ≡ false) where
    -- the label is there
    label-passed : (label_count f ≤ label_most) × (label_stage f ≡ 0)
    label-passed =
        let p = between 0 label_most (label_count f) a in
        (p.1, stage-passed 0 octet_width 0 label_most long_label f a (omega arith))

    -- a label octet that cannot be shown
    thirteen : some_unshown (sample_in f).label ≡ true → file_refusal f ≡ octet_outside
    thirteen t = refused-octets f label-passed.1 t

    module _ (o : some_unshown (sample_in f).label ≡ false) where
      -- a wrong K
      four : outside 1 sent_most (sent_count f) ≡ true → file_refusal f ≡ sent_outside
      four t =
          let p = label-passed in
          refused-sent f p.1 o sent_outside (omega arith)
          (stage-judged (sent_at f) size_width judge_sent f sent_outside (omega arith) (omega arith)
          (ap (λ (b : Bool). refusal_if b sent_outside) t))

      module _ (b : outside 1 sent_most (sent_count f) ≡ false) where
        -- the sizes are there
        sent-passed : (sent_count f ≤ sent_most) × (sent_stage f ≡ 0)
        sent-passed =
            let p = label-passed in
            let q = between 1 sent_most (sent_count f) b in
            (q.1, stage-passed (sent_at f) size_width 1 sent_most sent_outside f b (omega arith))

        -- too many arrivals
        five : outside 0 arrivals_most (arrival_count f) ≡ true → file_refusal f ≡ many_arrivals
        five t =
            let p = label-passed in
            let q = sent-passed in
            refused-arrived f p.1 o q.1 many_arrivals (omega arith)
            (stage-judged (arrived_at f) arrival_width judge_arrivals f many_arrivals (omega arith) (omega arith)
            (ap (λ (c : Bool). refusal_if c many_arrivals) t))

        -- octets that follow
        two : outside 0 arrivals_most (arrival_count f) ≡ false → file_refusal f ≡ octets_follow
        two t =
            let p = label-passed in
            let q = sent-passed in
            let r = between 0 arrivals_most (arrival_count f) t in
            refused_end f p.1 o q.1 (stage-passed (arrived_at f) arrival_width 0 arrivals_most many_arrivals f t
            (omega arith)) octets_follow (omega arith)
            (ap (λ (c : Bool). refusal_if c octets_follow) (lt-ltb (file_end f) (length f) (omega arith)))

-- ---- its first octets

-- a part that stands within them
part-within : (at n m : ℕ) (file : List ℕ) → at + n ≤ m → part at n (take m file) ≡ part at n file
part-within at n m file h = ap (take n) (drop-take at m file) ∙ take-take n (m - at) (drop at file) (omega arith)

-- a count that stands within them
count-within : (at m : ℕ) (file : List ℕ) → items_at at ≤ m → count_at at (take m file) ≡ count_at at file
unfolding count_at
count-within at m file h = ap be_value (part-within at count_width m file h)

-- one octet more than the longest sample has
abbrev pub begin : List ℕ → List ℕ
begin file = take (longest + 1) file

-- the refusals that a longer file can have
abbrev longer_refusals : List ℕ
longer_refusals = octets_follow ∷ long_label ∷ octet_outside ∷ sent_outside ∷ many_arrivals ∷ []

-- the whole and its beginning are refused with one of them
record Refused (file : List ℕ) : Type 0 where
  pub with : ℕ
  pub due : 0 < with
  pub one : among with longer_refusals ≡ true
  pub whole : file_refusal file ≡ with
  pub start : file_refusal (begin file) ≡ with

longer-refused : (file : List ℕ) → longest < length file → Refused file
unfolding sample_in
longer-refused f h = first (outside 0 label_most (label_count f)) refl where
  -- the beginning is longer than the longest sample too
  k : longest < length (begin f)
  k = simp length-take (omega arith)

  -- the label has one count
  l : label_count (begin f) ≡ label_count f
  l = count-within 0 (longest + 1) f (omega arith)

  -- by the count of arrivals
  fourth : (t : Bool) → outside 0 arrivals_most (arrival_count f) ≡ t
      → outside 0 label_most (label_count f) ≡ false → some_unshown (sample_in f).label ≡ false → outside 1 sent_most (sent_count f) ≡ false
      → (sample_in (begin f)).label ≡ (sample_in f).label → sent_count (begin f) ≡ sent_count f → arrival_count (begin f) ≡ arrival_count f
      → Refused f
  fourth true e a o b n s r =
      record {
        with = many_arrivals;
        due = omega arith;
        one = refl;
        whole = five f h a o b e;
        start = five (begin f) k (ap (outside 0 label_most) l ∙ a) (ap some_unshown n ∙ o) (ap (outside 1 sent_most) s ∙ b)
            (ap (outside 0 arrivals_most) r ∙ e);
      }
  fourth false e a o b n s r =
      record {
        with = octets_follow;
        due = omega arith;
        one = refl;
        whole = two f h a o b e;
        start = two (begin f) k (ap (outside 0 label_most) l ∙ a) (ap some_unshown n ∙ o) (ap (outside 1 sent_most) s ∙ b)
            (ap (outside 0 arrivals_most) r ∙ e);
      }

  -- by the count of sent packets
  third : (t : Bool) → outside 1 sent_most (sent_count f) ≡ t → outside 0 label_most (label_count f) ≡ false
      → some_unshown (sample_in f).label ≡ false
      → (sample_in (begin f)).label ≡ (sample_in f).label → sent_count (begin f) ≡ sent_count f
      → Refused f
  third true e a o n s =
      record {
        with = sent_outside;
        due = omega arith;
        one = refl;
        whole = four f h a o e;
        start = four (begin f) k (ap (outside 0 label_most) l ∙ a) (ap some_unshown n ∙ o) (ap (outside 1 sent_most) s ∙ e);
      }
  third false e a o n s =
      let p = between 0 label_most (label_count f) a in
      let q = between 1 sent_most (sent_count f) e in
      let u : arrived_at (begin f) ≡ arrived_at f = omega (arith, l) in
      fourth (outside 0 arrivals_most (arrival_count f)) refl a o e n s
      (ap (λ (n : ℕ). count_at n (begin f)) u ∙ count-within (arrived_at f) (longest + 1) f (omega arith))

  -- by the octets of the label
  second : (t : Bool) → some_unshown (sample_in f).label ≡ t → outside 0 label_most (label_count f) ≡ false
      → (sample_in (begin f)).label ≡ (sample_in f).label → Refused f
  second true e a n =
      record {
        with = octet_outside;
        due = omega arith;
        one = refl;
        whole = thirteen f h a e;
        start = thirteen (begin f) k (ap (outside 0 label_most) l ∙ a) (ap some_unshown n ∙ e);
      }
  second false e a n =
      let p = between 0 label_most (label_count f) a in
      let u : sent_at (begin f) ≡ sent_at f = omega (arith, l) in
      third (outside 1 sent_most (sent_count f)) refl a e n
      (ap (λ (n : ℕ). count_at n (begin f)) u ∙ count-within (sent_at f) (longest + 1) f (omega arith))

  -- by the count of the label
  first : (t : Bool) → outside 0 label_most (label_count f) ≡ t → Refused f
  first true e =
      record {
        with = long_label;
        due = omega arith;
        one = refl;
        whole = three f h e;
        start = three (begin f) k (ap (outside 0 label_most) l ∙ e);
      }
  first false e =
      let p = between 0 label_most (label_count f) e in
      second (some_unshown (sample_in f).label) refl e
      (ap (λ (n : ℕ). part (items_at 0) n (begin f)) l ∙ part-within (items_at 0) (label_count f) (longest + 1) f (omega arith))

-- ---- a sample that is filled

zeros-below : (m n : ℕ) → 0 < m → Below m (replicate n 0)
zeros-below m zero h = below-nil m h
zeros-below m (suc n) h = below-cons m 0 (replicate n 0) h (zeros-below m n h)

-- packet 1 at time 0
abbrev again : Arrival
again = record { number = 1; time = 0 }

-- its times
again-below : (m n : ℕ) → 0 < m → Below m (times_of (replicate n again))
again-below m zero h = below-nil m h
again-below m (suc n) h = below-cons m 0 (times_of (replicate n again)) h (again-below m n h)

-- n copies of it are never refused
again-judged : (k n : ℕ) → 1 ≤ k → judge k 0 (replicate n again) ≡ 0
unfolding judge judge_one too_early next_reference
again-judged k zero h = refl
again-judged k (suc n) h = rw (not-outside 1 k 1 (omega arith) h, again-judged k n h)

-- up to the limits it is fit
filled-fit : (label sent arrivals : ℕ) → label ≤ label_most → 1 ≤ sent → sent ≤ sent_most → arrivals ≤ arrivals_most
    → FitSample (filled label sent arrivals)
unfolding filled
filled-fit label sent arrivals l p s a =
    let n = length-replicate {A = ℕ} label shown_least in
    let m = length-replicate {A = ℕ} sent 0 in
    let o = length-replicate arrivals again in
    record {
      judged = within-limits (record { label = replicate label shown_least; sizes = replicate sent 0; arrivals = replicate arrivals again })
          (record {
            label_fits = omega arith;
            shown = spaces-shown label;
            sent_some = omega arith;
            sent_fits = omega arith;
            arrivals_fit = omega arith;
            judged = again-judged (length (replicate sent 0)) arrivals (omega arith);
          });
      sizes = zeros-below (2 ^ 16) sent (omega arith);
      times = again-below (2 ^ 64) arrivals (omega arith);
    }

filled-length : (label sent arrivals : ℕ) → length (file_of (filled label sent arrivals)) ≡ last_end label sent arrivals
unfolding filled
filled-length label sent arrivals =
    file-length (record { label = replicate label shown_least; sizes = replicate sent 0; arrivals = replicate arrivals again })
    ∙ rw (length-replicate {A = ℕ} label shown_least, length-replicate {A = ℕ} sent 0, length-replicate arrivals again)

-- ---- together

pub lengths : (file : List ℕ) → Octets file → Lengths file
lengths file o =
    record {
      most = λ s e. accepted-most file s e o;
      reached =
          decode-file (filled label_most sent_most arrivals_most) (filled-fit label_most sent_most arrivals_most (omega arith) (omega arith)
          (omega arith) (omega arith));
      reached_by = filled-length label_most sent_most arrivals_most;
      longer = λ h. one_of (longer-refused file h);
      begun = λ h. same (longer-refused file h);
    }
  where
    one_of : Refused file → among (decoded_refusal (decode file)) longer_refusals ≡ true
    one_of r = ap (λ (d : Decoded). among (decoded_refusal d) longer_refusals) (decode-refused file r.with r.due r.whole) ∙ r.one

    same : Refused file → decode file ≡ decode (begin file)
    same r = decode-refused file r.with r.due r.whole ∙ sym (decode-refused (begin file) r.with r.due r.start)
