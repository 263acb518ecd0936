-- Decoding accepts exactly the octets of fit samples (`exact`). Nothing of a sample is refused exactly if it keeps its limits (`limits`,
-- `within-limits`). One way: in an accepted file each section's count and items, written back, are the octets that they were read from, so
-- each section is a part of the file. The parts lie side by side and the last one ends with the file, so together they are the file
-- (`file-back`). Its sample is fit, since what is read from a field's octets fits that field (`sample-fit`). The other way: in the file of
-- a fit sample each section is found where those before it end, its count is read as it was written, and so are its items, as they fit
-- their fields (`section-count`, `section-items`). So the sample found is the one that was written, and nothing is refused
-- (`decode-file`). Here s is a sample and f that it is fit, o that the file is octets, w that nothing of it is refused; p is what stands
-- before a section, os its items' octets, rest what follows it, n its count and at its offset. Assumes nothing.
use Prim.Native.Nat.{ℕ, ◌+◌, ◌*◌, ◌^◌, ◌≤◌, ◌<◌}
use native.Mathlib.Omega.{arith}
use mathlib.Core.Bool.{Bool, true, false}
use mathlib.Core.Path.{◌≡◌, refl, sym, ap, ap₂, ◌∙◌, subst}
use mathlib.Core.List.{List, [], ◌∷◌, ◌++◌, append_assoc, append-nil}
use borrow.Author.Tests.{ltb-true, ltb-false}
use lib.Dec.{ltb}
use lib.ListN.{length, get_or, take, drop, length-append, length-drop, length-map, get_or-map, get_or-eq_default}
use lib.Seq.{take_at, drop_at, drop-drop, take_all}
use Rattle.octets.specs.Below.{Octets}
use Rattle.octets.specs.BigEndian.{be_value, be_octets}
use Rattle.octets.specs.Memory.{part}
use Rattle.octets.proofs.Below.{below-part, below-drop}
use Rattle.octets.proofs.BigEndian.{octets-length, value-octets}
use Rattle.octets.proofs.Memory.{part_length, part-append}
use Rattle.rfc4737.specs.declared.Arrival.{Arrival}
use Rattle.rfc4737.specs.Refusals.{long_label, octet_outside}
use Rattle.rfc4737.specs.Judge.{sent_most, arrivals_most, numbers_of, times_of, arrivals_from, judge, refusal_of_lists}
use Rattle.sample.specs.Format.{Sample, label_most, count_width, octet_width, size_width, number_width, time_width, arrival_width, items_at, end_of, last_end, section, size_octets, arrival_octets, item_octets, items_in, file_of}
use Rattle.sample.specs.Judge.{judge_label, some_unshown, judge_octets, sample_refusal, FitSample}
use Rattle.sample.specs.Decode.{count_at, label_count, sent_at, sent_count, arrived_at, arrival_count, arrival_in, sample_in, decode, accepted}
use Rattle.sample.specs.Places.{no_arrival}
use Rattle.sample.specs.RoundTrip.{ExactFile}
use Rattle.rfc4737.proofs.Due.{each_none, case-none, limit-none, not-outside}
use Rattle.sample.proofs.Items.{items-length, items-stand, part-fits, octets-many, read-written, written_read, arrival-long, arrival-read, arrival-back, time-stands, size-long, value-back}
use Rattle.rfc4737.proofs.Judged.{ListsFit, lists-fit, fit-lists, judged-number}
use Rattle.rfc4737.proofs.Pairs.{numbers-back, times-back, arrivals-back}
use Rattle.sample.proofs.Decoded.{WholeFile, refused_none, none-refused, decode-accepted, accepted-decode, label-length, sizes-length, arrivals-number}

-- ---- limits of a sample

-- what holds of a sample of which nothing is refused
pub record Limits (s : Sample) : Type 0 where
  pub label_fits : length s.label ≤ label_most
  pub shown : some_unshown s.label ≡ false
  pub sent_some : 1 ≤ length s.sizes
  pub sent_fits : length s.sizes ≤ sent_most
  pub arrivals_fit : length s.arrivals ≤ arrivals_most
  pub judged : judge (length s.sizes) 0 s.arrivals ≡ 0

-- of a label and lists nothing is refused: the label has at most 64 octets, which can be shown, and K and the lists are fit
pub label-fit : (label sizes numbers times : List ℕ) → sample_refusal label sizes numbers times ≡ 0
    → (length label ≤ label_most) × (some_unshown label ≡ false) × ListsFit (length sizes) numbers times
unfolding sample_refusal
label-fit label sizes numbers times e =
    let n = each_none (judge_label (length label) ∷ judge_octets label ∷ refusal_of_lists (length sizes) numbers times ∷ []) e in (
      (limit-none 0 label_most (length label) long_label (omega arith) (n 0)).1,
      case-none (some_unshown label) octet_outside (omega arith) (n 1),
      lists-fit (length sizes) numbers times (n 2),
    )

-- nothing of their sample's is refused
pub from-none : (label sizes numbers times : List ℕ) → sample_refusal label sizes numbers times ≡ 0
    → sample_refusal label sizes (numbers_of (arrivals_from numbers times)) (times_of (arrivals_from numbers times)) ≡ 0
from-none label sizes numbers times e =
    let q = (label-fit label sizes numbers times e).2.same in
    rw (numbers-back numbers times q, times-back numbers times q) e

-- nothing of a sample is refused: all of that holds
pub limits : (s : Sample) → sample_refusal s.label s.sizes (numbers_of s.arrivals) (times_of s.arrivals) ≡ 0 → Limits s
limits s e =
    let f = label-fit s.label s.sizes (numbers_of s.arrivals) (times_of s.arrivals) e in
    let n = length-map s.arrivals (λ (a : Arrival). a.number) in
    let j = ap (judge (length s.sizes) 0) (sym (arrivals-back s.arrivals)) ∙ f.2.judged in
    record { label_fits = f.0; shown = f.1; sent_some = f.2.least; sent_fits = f.2.most; arrivals_fit = rw (← n) f.2.few; judged = j }

-- all of that holds: nothing is refused
pub within-limits : (s : Sample) → Limits s → sample_refusal s.label s.sizes (numbers_of s.arrivals) (times_of s.arrivals) ≡ 0
unfolding sample_refusal
within-limits s l =
    let n = length-map s.arrivals (λ (a : Arrival). a.number) in
    let t = length-map s.arrivals (λ (a : Arrival). a.time) in
    let p = not-outside 0 label_most (length s.label) (omega arith) l.label_fits in
    let j : judge (length s.sizes) 0 (arrivals_from (numbers_of s.arrivals) (times_of s.arrivals)) ≡ 0 =
    rw (arrivals-back s.arrivals) l.judged in
    simp (
      p,
      l.shown,
      fit-lists (length s.sizes) (numbers_of s.arrivals) (times_of s.arrivals) l.sent_some l.sent_fits (rw n l.arrivals_fit)
          (t ∙ sym n) j,
    )

-- ---- an accepted file is the file of its sample

-- the values of `count` items from offset `at` on are below n, if each value that is read there is
items-below : (n : ℕ) {A : Type 0} (width : ℕ) (item : List ℕ → A) (value : A → ℕ) (z : A) → value z ≡ 0 → 0 < n
    → (count at : ℕ) (file : List ℕ) → ((i : ℕ) → value (item (part (at + width * i) width file)) < n)
    → (i : ℕ) → value (get_or (items_in width item count (drop at file)) i z) < n
items-below n width item value z e p count at file h i = go (ltb i count) refl where
  go : (t : Bool) → ltb i count ≡ t → value (get_or (items_in width item count (drop at file)) i z) < n
  go true q = rw (items-stand width item count at file i z (ltb-true i count q)) (h i)
  go false q =
      let k : length (items_in width item count (drop at file)) ≤ i =
      rw (items-length width item count (drop at file)) (ltb-false i count q) in
      rw (get_or-eq_default (items_in width item count (drop at file)) z k, e) p

-- the count of a section, written back
count-back : (at : ℕ) (file : List ℕ) → Octets file → items_at at ≤ length file
    → be_octets count_width (count_at at file) ≡ part at count_width file
unfolding count_at
count-back at file o h =
    value-back count_width (part at count_width file) (below-part 256 at count_width file o) (part_length at count_width file h)

-- a section whose items' octets are those of the file is that part of the file
section-back : (at width : ℕ) (os file : List ℕ) → Octets file → end_of at width (count_at at file) ≤ length file
    → os ≡ part (items_at at) (width * count_at at file) file
    → section (count_at at file) os ≡ part at (count_width + width * count_at at file) file
unfolding section
section-back at width os file o h e =
    let p : items_at at ≤ length file = omega arith in
    ap₂ (λ (a b : List ℕ). a ++ b) (count-back at file o p) e ∙ sym (part-append at count_width (width * count_at at file) file)

module _ (file : List ℕ) (o : Octets file) (w : WholeFile file) where
  -- where the section of sent packets begins
  sent-within : sent_at file ≤ length file
  sent-within = let e = w.ends in omega arith

  -- where the section of arrivals begins
  arrived-within : arrived_at file ≤ length file
  arrived-within = let e = w.ends in omega arith

  -- the label, written back
  label-back : section (length (sample_in file).label) (sample_in file).label ≡ part 0 (count_width + octet_width * label_count file) file
  unfolding sample_in
  label-back =
      ap (λ (n : ℕ). section n (sample_in file).label) (label-length file w)
      ∙ section-back 0 octet_width (sample_in file).label file o sent-within
      (let e : label_count file ≡ octet_width * label_count file = omega arith in ap (λ (n : ℕ). part (items_at 0) n file) e)

  -- the sent packets, written back
  sizes-back : section (length (sample_in file).sizes) (item_octets size_octets (sample_in file).sizes)
      ≡ part (sent_at file) (count_width + size_width * sent_count file) file
  unfolding sample_in
  sizes-back =
      let h : size_width * sent_count file ≤ length (drop (items_at (sent_at file)) file) = simp length-drop (let e = w.ends in omega arith) in
      ap (λ (n : ℕ). section n (item_octets size_octets (sample_in file).sizes)) (sizes-length file)
      ∙ section-back (sent_at file) size_width (item_octets size_octets (sample_in file).sizes) file o arrived-within
      (written_read size_octets size_width size-long be_value (value-back size_width) (sent_count file) (drop (items_at (sent_at file)) file)
      (below-drop 256 (items_at (sent_at file)) file o) h)

  -- the arrivals, written back
  arrivals-part : section (length (sample_in file).arrivals) (item_octets arrival_octets (sample_in file).arrivals)
      ≡ part (arrived_at file) (count_width + arrival_width * arrival_count file) file
  unfolding sample_in
  arrivals-part =
      let h : arrival_width * arrival_count file ≤ length (drop (items_at (arrived_at file)) file) =
      simp length-drop (let e = w.ends in omega arith) in
      ap (λ (n : ℕ). section n (item_octets arrival_octets (sample_in file).arrivals)) (arrivals-number file)
      ∙ section-back (arrived_at file) arrival_width (item_octets arrival_octets (sample_in file).arrivals) file o
      (let e = w.ends in omega arith)
      (written_read arrival_octets arrival_width arrival-long arrival_in arrival-back (arrival_count file)
      (drop (items_at (arrived_at file)) file) (below-drop 256 (items_at (arrived_at file)) file o) h)

  -- the three sections make up the file
  pub file-back : file ≡ file_of (sample_in file)
  unfolding file_of
  file-back =
      let a = count_width + octet_width * label_count file in
      let b = count_width + size_width * sent_count file in
      let c = count_width + arrival_width * arrival_count file in
      let p : 0 + a ≡ sent_at file = omega arith in
      let q : sent_at file + b ≡ arrived_at file = omega arith in
      let r : length file ≤ a + (b + c) = let e = w.ends in omega arith in
      sym (ap₂ (λ (x y : List ℕ). x ++ y) label-back (ap₂ (λ (x y : List ℕ). x ++ y) sizes-back arrivals-part)
      ∙ ap (λ (n : ℕ). part 0 a file ++ (part (sent_at file) b file ++ part n c file)) (sym q)
      ∙ ap (λ (l : List ℕ). part 0 a file ++ l) (sym (part-append (sent_at file) b c file))
      ∙ ap (λ (n : ℕ). part 0 a file ++ part n (b + c) file) (sym p)
      ∙ sym (part-append 0 a (b + c) file)
      ∙ take_all (a + (b + c)) file r)

  -- its sample is fit
  pub sample-fit : FitSample (sample_in file)
  unfolding sample_in
  sample-fit =
      let l = label-length file w in
      let k = sizes-length file in
      let a = arrivals-number file in
      record {
        judged = within-limits (sample_in file) (record {
          label_fits = rw l w.label_fits;
          shown = w.shown;
          sent_some = rw k w.sent_some;
          sent_fits = rw k w.sent_fits;
          arrivals_fit = rw a w.arrivals_fit;
          judged = rw k w.judged;
        });
        sizes =
            items-below (2 ^ 16) size_width be_value (λ (n : ℕ). n) 0 refl (omega arith) (sent_count file) (items_at (sent_at file)) file
            (λ i. part-fits size_width (items_at (sent_at file) + size_width * i) file o);
        times = λ i. rw (get_or-map (λ (x : Arrival). x.time) (sample_in file).arrivals i no_arrival)
            (items-below (2 ^ 64) arrival_width arrival_in (λ (x : Arrival). x.time) no_arrival refl (omega arith) (arrival_count file)
            (items_at (arrived_at file)) file
            (λ j. rw (time-stands (items_at (arrived_at file) + arrival_width * j) file)
            (part-fits time_width (items_at (arrived_at file) + arrival_width * j + number_width) file o)) i);
      }

-- ---- the file of a fit sample decodes to it

-- a section after p: its count
section-count : (p os rest : List ℕ) (n at : ℕ) → length p ≡ at → n < 2 ^ 16 → count_at at (p ++ (section n os ++ rest)) ≡ n
unfolding count_at section
section-count p os rest n at e h =
    let c = be_octets count_width n in
    rw (drop_at p ((c ++ os) ++ rest) at e, append_assoc c os rest, take_at c (os ++ rest) count_width (octets-length count_width n))
    (value-octets count_width n h)

-- and its items
section-items : (p os rest : List ℕ) (n at : ℕ) → length p ≡ at → drop (items_at at) (p ++ (section n os ++ rest)) ≡ os ++ rest
unfolding section
section-items p os rest n at e =
    let c = be_octets count_width n in
    sym (drop-drop count_width at (p ++ ((c ++ os) ++ rest)))
    ∙ ap (drop count_width) (drop_at p ((c ++ os) ++ rest) at e ∙ append_assoc c os rest)
    ∙ drop_at c (os ++ rest) count_width (octets-length count_width n)

-- its length
pub section-length : (n : ℕ) (os : List ℕ) → length (section n os) ≡ count_width + length os
unfolding section
section-length n os = length-append (be_octets count_width n) os ∙ ap (λ (k : ℕ). k + length os) (octets-length count_width n)

-- the octets of the sizes
abbrev sizes_part : Sample → List ℕ
sizes_part s = item_octets size_octets s.sizes

-- the octets of the arrivals
abbrev arrivals_part : Sample → List ℕ
arrivals_part s = item_octets arrival_octets s.arrivals

-- the section of the label
abbrev label_section : Sample → List ℕ
label_section s = section (length s.label) s.label

-- the section of sent packets
abbrev sent_section : Sample → List ℕ
sent_section s = section (length s.sizes) (sizes_part s)

-- the section of arrivals
abbrev arrived_section : Sample → List ℕ
arrived_section s = section (length s.arrivals) (arrivals_part s)

-- the file, with its first two sections put together
sections : (s : Sample) → file_of s ≡ (label_section s ++ sent_section s) ++ (arrived_section s ++ [])
unfolding file_of
sections s = rw (append-nil (arrived_section s), append_assoc (label_section s) (sent_section s) (arrived_section s))

-- its length
pub file-length : (s : Sample) → length (file_of s) ≡ last_end (length s.label) (length s.sizes) (length s.arrivals)
unfolding file_of
file-length s =
    let a = section-length (length s.label) s.label in
    let b = section-length (length s.sizes) (sizes_part s) in
    let c = section-length (length s.arrivals) (arrivals_part s) in
    let d = octets-many size_octets size_width size-long s.sizes in
    let e = octets-many arrival_octets arrival_width arrival-long s.arrivals in
    length-append (label_section s) (sent_section s ++ arrived_section s)
    ∙ ap (λ (n : ℕ). length (label_section s) + n) (length-append (sent_section s) (arrived_section s))
    ∙ (let g : length (label_section s) + (length (sent_section s) + length (arrived_section s))
    ≡ last_end (length s.label) (length s.sizes) (length s.arrivals) = omega arith in g)

module _ (s : Sample) (f : FitSample s) where
  label-count : label_count (file_of s) ≡ length s.label
  unfolding file_of
  label-count =
      let l = limits s f.judged in
      section-count [] s.label (sent_section s ++ arrived_section s) (length s.label) 0 refl (omega arith)

  -- where the section of sent packets begins
  sent-begins : length (label_section s) ≡ sent_at (file_of s)
  sent-begins =
      let a = section-length (length s.label) s.label in
      let e = label-count in
      omega arith

  -- K
  sent-count : sent_count (file_of s) ≡ length s.sizes
  unfolding file_of
  sent-count =
      let l = limits s f.judged in
      section-count (label_section s) (sizes_part s) (arrived_section s) (length s.sizes) (sent_at (file_of s)) sent-begins (omega arith)

  -- where the section of arrivals begins
  arrived-begins : length (label_section s ++ sent_section s) ≡ arrived_at (file_of s)
  arrived-begins =
      let a = sent-begins in
      let b = section-length (length s.sizes) (sizes_part s) in
      let c = octets-many size_octets size_width size-long s.sizes in
      let d = sent-count in
      length-append (label_section s) (sent_section s)
      ∙ (let g : length (label_section s) + length (sent_section s) ≡ arrived_at (file_of s) = omega arith in g)

  -- A
  arrival-count : arrival_count (file_of s) ≡ length s.arrivals
  arrival-count =
      let l = limits s f.judged in
      ap (count_at (arrived_at (file_of s))) (sections s)
      ∙ section-count (label_section s ++ sent_section s) (arrivals_part s) [] (length s.arrivals) (arrived_at (file_of s)) arrived-begins
      (omega arith)

  label-found : (sample_in (file_of s)).label ≡ s.label
  unfolding file_of sample_in
  label-found =
      ap (λ (n : ℕ). part (items_at 0) n (file_of s)) label-count
      ∙ ap (take (length s.label)) (section-items [] s.label (sent_section s ++ arrived_section s) (length s.label) 0 refl)
      ∙ take_at s.label (sent_section s ++ arrived_section s) (length s.label) refl

  sizes-found : (sample_in (file_of s)).sizes ≡ s.sizes
  unfolding file_of sample_in
  sizes-found =
      ap₂ (items_in size_width be_value) sent-count (section-items (label_section s) (sizes_part s) (arrived_section s) (length s.sizes)
      (sent_at (file_of s)) sent-begins)
      ∙ read-written size_octets size_width size-long be_value s.sizes 0 (arrived_section s)
      (λ i h. value-octets size_width (get_or s.sizes i 0) (f.sizes i))

  arrivals-found : (sample_in (file_of s)).arrivals ≡ s.arrivals
  unfolding sample_in
  arrivals-found =
      let l = limits s f.judged in
      ap₂ (items_in arrival_width arrival_in) arrival-count
      (ap (drop (items_at (arrived_at (file_of s)))) (sections s)
      ∙ section-items (label_section s ++ sent_section s) (arrivals_part s) [] (length s.arrivals) (arrived_at (file_of s)) arrived-begins)
      ∙ read-written arrival_octets arrival_width arrival-long arrival_in s.arrivals no_arrival [] (λ i h.
      let p = judged-number (length s.sizes) 0 s.arrivals l.judged i no_arrival h in
      let q : (get_or s.arrivals i no_arrival).number < 2 ^ 32 = omega arith in
      arrival-read (get_or s.arrivals i no_arrival) q (subst (λ (n : ℕ). n < 2 ^ 64)
      (get_or-map (λ (x : Arrival). x.time) s.arrivals i no_arrival) (f.times i)))

  sample-found : sample_in (file_of s) ≡ s
  unfolding sample_in
  sample-found = λ i. record { label = label-found i; sizes = sizes-found i; arrivals = arrivals-found i }

  -- nothing of the file is refused
  whole : WholeFile (file_of s)
  whole =
      let l = limits s f.judged in
      let a = label-count in
      let b = sent-count in
      let c = arrival-count in
      let d = file-length s in
      record {
        label_fits = omega arith;
        shown = ap some_unshown label-found ∙ l.shown;
        sent_some = omega arith;
        sent_fits = omega arith;
        arrivals_fit = omega arith;
        ends = omega arith;
        judged = ap₂ (λ (k : ℕ) (x : List Arrival). judge k 0 x) sent-count arrivals-found ∙ l.judged;
      }

  -- the file decodes to the sample
  pub decode-file : decode (file_of s) ≡ accepted s
  decode-file = decode-accepted (file_of s) (none-refused (file_of s) whole) ∙ ap accepted sample-found

-- ---- the theorem

pub exact : (file : List ℕ) → Octets file → ExactFile file
exact file o s = (there, back) where
  -- an accepted file is the file of a fit sample
  there : decode file ≡ accepted s → FitSample s × (file ≡ file_of s)
  there e =
      let p = accepted-decode file s e in
      let w = refused_none file p.0 in
      (subst FitSample p.1 (sample-fit file o w), file-back file o w ∙ ap file_of p.1)

  -- the file of a fit sample is accepted
  back : FitSample s × (file ≡ file_of s) → decode file ≡ accepted s
  back h = ap decode h.1 ∙ decode-file s h.0
