-- What the reader and the writer return, by cases. The reader: the file is refused, a list is too short (8), or the lists are filled. The
-- first refusal that applies decides the result of `decode_into`, and with it the answer and the lists. If nothing is refused, the counts
-- are those of the file, so the values read by the layout are those of its sections (`read-filled`). The writer: the buffer is too short,
-- or three sections are written one after the other, which is one write of the file from the start (`write-filled`). Here y is the layout
-- that `check` returns, e says that it is the file's, z that it has no refusal; n is a refusal; sizes', numbers', times' and out' are the
-- caller's lists and buffer after the call. Assumes nothing.
use Prim.Native.Nat.{ℕ, ◌+◌, ◌*◌, ◌≤◌, ◌<◌, zero-le}
use native.Mathlib.Omega.{arith}
use mathlib.Core.Bool.{true, false, ◌||◌}
use mathlib.Core.Path.{◌≡◌, sym, ap, ap₂, ◌∙◌, subst}
use mathlib.Core.List.{List, ◌++◌, append_assoc}
use borrow.Author.Tests.{ltb-false}
use lib.Dec.{ltb}
use lib.ListN.{length, drop, length-append}
use Rattle.octets.specs.BigEndian.{be_value}
use Rattle.octets.specs.Memory.{over, splice}
use Rattle.octets.proofs.Memory.{splice-next, over-splice}
use Rattle.rfc4737.specs.Refusals.{output_short}
use Rattle.rfc4737.specs.Judge.{numbers_of, times_of, arrivals_from}
use Rattle.sample.specs.Format.{size_width, arrival_width, items_at, sent_start, arrived_start, last_end, section, size_octets, arrival_octets, item_octets, items_in, file_of}
use Rattle.sample.specs.Decode.{label_count, sent_at, sent_count, arrived_at, arrival_count, arrival_in, sample_in, file_refusal, Decoded, refused, accepted, decode, sample_of, layout_of}
use Rattle.sample.specs.Places.{sizes_at, arrivals_at}
use Rattle.sample.specs.Calls.{lists_short, decode_into, ReadFrom, sample_from, WrittenTo, unless_short}
use Rattle.sample.specs.Judge.{sample_refusal}
use Rattle.sample.specs.declared.Layout.{Layout}
use Rattle.rfc4737.proofs.Tests.{neither}
use Rattle.rfc4737.proofs.Pairs.{arrivals-length}
use Rattle.sample.proofs.Items.{size-long, octets-many}
use Rattle.sample.proofs.Decoded.{refused_none, decided-refusal, decode-accepted, decode-refused, layout-accepted}
use Rattle.sample.proofs.Exact.{section-length, file-length}
use Rattle.sample.proofs.Output.{output-short, output-written}

-- ---- what was found, y, is the layout of the file

module _ (file : List ℕ) (y : Layout) (e : y ≡ layout_of (decode file)) where
  -- its refusal is the first that applies
  pub found-refusal : file_refusal file ≡ y.refusal
  unfolding decode
  found-refusal = sym (ap (λ (x : Layout). x.refusal) e ∙ decided-refusal (file_refusal file) (sample_in file))

  -- a refusal
  pub found-refused : 0 < y.refusal → decode file ≡ refused y.refusal
  found-refused h = decode-refused file y.refusal h found-refusal

  module _ (z : y.refusal ≡ 0) where
    -- no refusal: the counts are those of the file
    pub found-counts : y ≡ record { refusal = 0; label = label_count file; sent = sent_count file; arrivals = arrival_count file }
    found-counts = e ∙ layout-accepted file (found-refusal ∙ z)

    -- and the file decodes to what its sections hold
    pub found-accepted : decode file ≡ accepted (sample_in file)
    found-accepted = decode-accepted file (found-refusal ∙ z)

-- ---- the reader

-- the values that were found lie within the file, and the lists have places for them
pub record Room (file sizes numbers times : List ℕ) (y : Layout) : Type 0 where
  pub sizes_stand : sizes_at y + size_width * y.sent ≤ length file
  pub arrivals_stand : arrivals_at y + arrival_width * y.arrivals ≤ length file
  pub sizes_room : y.sent ≤ length sizes
  pub numbers_room : y.arrivals ≤ length numbers
  pub times_room : y.arrivals ≤ length times

module _ (file sizes numbers times : List ℕ) where
  -- a refusal: the lists are as they were
  refused-read : (n : ℕ) → decode_into (length sizes) (length numbers) (length times) file ≡ refused n
      → ReadFrom file sizes numbers times (layout_of (refused n)) sizes numbers times
  refused-read n e =
      record {
        layout = sym (ap layout_of e);
        filled_sizes = sym (ap (λ (d : Decoded). over (sample_of d).sizes sizes) e);
        filled_numbers = sym (ap (λ (d : Decoded). over (numbers_of (sample_of d).arrivals) numbers) e);
        filled_times = sym (ap (λ (d : Decoded). over (times_of (sample_of d).arrivals) times) e);
      }

  -- the file's own refusal
  into-refused : (n : ℕ) → decode file ≡ refused n → decode_into (length sizes) (length numbers) (length times) file ≡ refused n
  unfolding decode_into unless_short
  into-refused n e = rw e

  -- none, and lists that are too short or not
  into-short : decode file ≡ accepted (sample_in file)
      → lists_short (layout_of (decode file)) (length sizes) (length numbers) (length times) ≡ true
      → decode_into (length sizes) (length numbers) (length times) file ≡ refused output_short
  unfolding decode_into unless_short
  into-short d s = ap₂ unless_short s d

  into-filled : decode file ≡ accepted (sample_in file)
      → lists_short (layout_of (decode file)) (length sizes) (length numbers) (length times) ≡ false
      → decode_into (length sizes) (length numbers) (length times) file ≡ accepted (sample_in file)
  unfolding decode_into unless_short
  into-filled d s = ap₂ unless_short s d

  module _ (y : Layout) (e : y ≡ layout_of (decode file)) where
    -- the file is refused
    pub read-refused : 0 < y.refusal → ReadFrom file sizes numbers times y sizes numbers times
    read-refused h =
        let d = found-refused file y e h in
        subst (λ (x : Layout). ReadFrom file sizes numbers times x sizes numbers times) (sym (e ∙ ap layout_of d))
        (refused-read y.refusal (into-refused y.refusal d))

    module _ (z : y.refusal ≡ 0) where
      -- a list is too short
      pub read_short : lists_short y (length sizes) (length numbers) (length times) ≡ true
          → ReadFrom file sizes numbers times (layout_of (refused output_short)) sizes numbers times
      read_short t =
          let s : lists_short (layout_of (decode file)) (length sizes) (length numbers) (length times) ≡ true = rw (← e) t in
          refused-read output_short (into-short (found-accepted file y e z) s)

      -- no list is too short
      pub room-found : lists_short y (length sizes) (length numbers) (length times) ≡ false → Room file sizes numbers times y
      unfolding lists_short
      room-found t =
          let a = neither (ltb (length sizes) y.sent) (ltb (length numbers) y.arrivals || ltb (length times) y.arrivals) t in
          let b = neither (ltb (length numbers) y.arrivals) (ltb (length times) y.arrivals) a.1 in
          let c = found-counts file y e z in
          let k = ap (λ (x : Layout). x.sent) c in
          let l = ap (λ (x : Layout). x.label) c in
          let n = ap (λ (x : Layout). x.arrivals) c in
          let w = refused_none file (found-refusal file y e ∙ z) in
          let f = w.ends in
          record {
            sizes_stand = omega arith;
            arrivals_stand = omega arith;
            sizes_room = ltb-false (length sizes) y.sent a.0;
            numbers_room = ltb-false (length numbers) y.arrivals b.0;
            times_room = ltb-false (length times) y.arrivals b.1;
          }

      -- the lists are filled
      pub read-filled : (sizes' numbers' times' : List ℕ) → lists_short y (length sizes) (length numbers) (length times) ≡ false
          → sizes' ≡ over (items_in size_width be_value y.sent (drop (sizes_at y) file)) sizes
          → numbers' ≡ over (numbers_of (items_in arrival_width arrival_in y.arrivals (drop (arrivals_at y) file))) numbers
          → times' ≡ over (times_of (items_in arrival_width arrival_in y.arrivals (drop (arrivals_at y) file))) times
          → ReadFrom file sizes numbers times y sizes' numbers' times'
      unfolding sample_in
      read-filled sizes' numbers' times' t p q r =
          let s : lists_short (layout_of (decode file)) (length sizes) (length numbers) (length times) ≡ false = rw (← e) t in
          let d = into-filled (found-accepted file y e z) s in
          let c = found-counts file y e z in
          let k = ap (λ (x : Layout). x.sent) c in
          let l = ap (λ (x : Layout). x.label) c in
          let a = ap (λ (x : Layout). x.arrivals) c in
          let u : sizes_at y ≡ items_at (sent_at file) = omega arith in
          let v : arrivals_at y ≡ items_at (arrived_at file) = omega arith in
          record {
            layout = e ∙ ap layout_of (found-accepted file y e z ∙ sym d);
            filled_sizes =
                p ∙ (λ i. over (items_in size_width be_value (k i) (drop (u i) file)) sizes)
                ∙ sym (ap (λ (x : Decoded). over (sample_of x).sizes sizes) d);
            filled_numbers =
                q ∙ (λ i. over (numbers_of (items_in arrival_width arrival_in (a i) (drop (v i) file))) numbers)
                ∙ sym (ap (λ (x : Decoded). over (numbers_of (sample_of x).arrivals) numbers) d);
            filled_times =
                r ∙ (λ i. over (times_of (items_in arrival_width arrival_in (a i) (drop (v i) file))) times)
                ∙ sym (ap (λ (x : Decoded). over (times_of (sample_of x).arrivals) times) d);
          }

-- ---- the writer

module _ (label sizes numbers times out : List ℕ) where
  module _ (e : 0 ≡ sample_refusal label sizes numbers times) (same : length times ≡ length numbers)
      (end : ℕ) (ends : end ≡ last_end (length label) (length sizes) (length numbers)) where
    -- the file's length
    octets-long : length (file_of (sample_from label sizes numbers times)) ≡ end
    octets-long =
        let n = arrivals-length numbers times same in
        let f = file-length (sample_from label sizes numbers times) in
        omega arith

    -- the lent octets are too few
    pub write-short : length out < end → WrittenTo label sizes numbers times out (record { refusal = output_short; length = 0 }) out
    write-short h =
        let l = octets-long in
        output-short (sample_refusal label sizes numbers times) (file_of (sample_from label sizes numbers times)) out (sym e) (omega arith)

    -- the file is written
    pub write-filled : (sent arrived : ℕ) → sent ≡ sent_start (length label) → arrived ≡ arrived_start (length label) (length sizes)
        → (out' : List ℕ) → end ≤ length out
        → out' ≡ splice arrived (section (length numbers) (item_octets arrival_octets (arrivals_from numbers times)))
        (splice sent (section (length sizes) (item_octets size_octets sizes)) (splice 0 (section (length label) label) out))
        → WrittenTo label sizes numbers times out (record { refusal = 0; length = end }) out'
    unfolding file_of
    write-filled sent arrived f g out' h w =
        let l = octets-long in
        let n = arrivals-length numbers times same in
        let a = section (length label) label in
        let b = section (length sizes) (item_octets size_octets sizes) in
        let c = section (length numbers) (item_octets arrival_octets (arrivals_from numbers times)) in
        let m = section-length (length label) label in
        let k = section-length (length sizes) (item_octets size_octets sizes) in
        let s = octets-many size_octets size_width size-long sizes in
        let p : 0 + length a ≡ sent = omega arith in
        let q : 0 + length (a ++ b) ≡ arrived = simp length-append (omega arith) in
        output-written (sample_refusal label sizes numbers times) (file_of (sample_from label sizes numbers times)) out (sym e) (omega arith)
        (sym l)
        (w ∙ ap (splice arrived c) (splice-next 0 sent a b out p zero-le)
        ∙ splice-next 0 arrived (a ++ b) c out q zero-le
        ∙ ap (λ (os : List ℕ). splice 0 os out) (append_assoc a b c
        ∙ ap (λ (j : ℕ). a ++ (b ++ section j (item_octets arrival_octets (arrivals_from numbers times)))) (sym n))
        ∙ sym (over-splice (file_of (sample_from label sizes numbers times)) out))
