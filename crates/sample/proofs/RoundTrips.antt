-- Both round trips. Read, then written (`written-again`): a read without a refusal means that the file is accepted and that the lists
-- begin with its sample's values (`into-none`). The writer is given these, so it writes the sample's file, which is the file that was read
-- (`file-back`). Written, then read (`read_again`): a write without a refusal means that label and lists are not refused and that their
-- file stands at the start (`output-read`). It decodes to their sample (`decode-file`), which the lists have room for (`into-room`). Here
-- s is the sample; a, b and c are lengths of lists; sizes, numbers, times (in `read_again` sizes₀, numbers₀, times₀) and out are the
-- caller's lists and buffer before a call, with ' after it. Assumes nothing.
use Prim.Native.Nat.{ℕ, zero, suc, ◌^◌, ◌≤◌}
use native.Mathlib.Omega.{arith}
use mathlib.Core.Bool.{Bool, true, false}
use mathlib.Core.Path.{◌≡◌, refl, sym, ap, ap₂, ◌∙◌, subst}
use mathlib.Core.List.{List}
use borrow.Author.Tests.{le-ltb}
use lib.ListN.{length, take, replicate, length-map, length-replicate}
use Rattle.octets.specs.Below.{Below, Octets}
use Rattle.octets.specs.Memory.{over}
use Rattle.octets.proofs.Memory.{over-read}
use Rattle.rfc4737.specs.declared.Arrival.{Arrival}
use Rattle.rfc4737.specs.Judge.{arrivals_most, numbers_of, times_of}
use Rattle.sample.specs.Format.{Sample, file_of}
use Rattle.sample.specs.Judge.{sample_refusal, FitSample}
use Rattle.sample.specs.Decode.{file_refusal, sample_in, decode, accepted, sample_of, decoded_refusal, layout_of}
use Rattle.sample.specs.Calls.{lists_short, unless_short, decode_into, sample_from, WrittenTo}
use Rattle.sample.specs.RoundTrip.{WrittenAgain, ReadAgain}
use Rattle.sample.specs.declared.Layout.{Layout}
use Rattle.sample.specs.declared.WriteAnswer.{WriteAnswer}
use Rattle.rfc4737.proofs.Pairs.{arrivals-length, numbers-back, times-back, arrivals-back}
use Rattle.sample.proofs.Decoded.{refused_none, decode-accepted, decode-refused}
use Rattle.sample.proofs.Output.{own-none, output-read, output-whole}
use Rattle.sample.proofs.Exact.{sample-fit, file-back, decode-file, label-fit, from-none}

-- ---- the reader

-- nothing is refused where lists are filled: nothing of the file is
into-none : (a b c : ℕ) (file : List ℕ) → decoded_refusal (decode_into a b c file) ≡ 0
    → (file_refusal file ≡ 0) × (decode_into a b c file ≡ accepted (sample_in file))
unfolding decode_into unless_short
into-none a b c file e = go (file_refusal file) refl (lists_short (layout_of (decode file)) a b c) refl
  where
    go : (r : ℕ) → file_refusal file ≡ r → (t : Bool) → lists_short (layout_of (decode file)) a b c ≡ t
        → (file_refusal file ≡ 0) × (decode_into a b c file ≡ accepted (sample_in file))
    go zero q true p = absurd (omega (arith, e, ap decoded_refusal (ap₂ unless_short p (decode-accepted file q))))
    go zero q false p = (q, ap₂ unless_short p (decode-accepted file q))
    go (suc r) q t p = absurd (omega (arith, e, ap decoded_refusal (ap₂ unless_short p (decode-refused file (suc r) (omega arith) q))))

-- a list of as many places as there are arrivals at most
pub arrivals-room : arrivals_most ≤ length (replicate {A = ℕ} arrivals_most 0)
arrivals-room = omega (arith, length-replicate {A = ℕ} arrivals_most 0)

-- the lists are long enough for a sample
pub into-room : (a b c : ℕ) (file : List ℕ) (s : Sample) → decode file ≡ accepted s → length s.sizes ≤ a → length s.arrivals ≤ b
    → length s.arrivals ≤ c
    → decode_into a b c file ≡ accepted s
unfolding decode_into unless_short lists_short
into-room a b c file s e p q r =
    rw (e, le-ltb a (length s.sizes) p, le-ltb b (length s.arrivals) q, le-ltb c (length s.arrivals) r)

-- ---- the writer

-- the octets of a sample, from its lists, where there is room
written-sample : (s : Sample) → sample_refusal s.label s.sizes (numbers_of s.arrivals) (times_of s.arrivals) ≡ 0
    → (out out' : List ℕ) (written : WriteAnswer) → length (file_of s) ≤ length out
    → WrittenTo s.label s.sizes (numbers_of s.arrivals) (times_of s.arrivals) out written out'
    → (written ≡ record { refusal = 0; length = length (file_of s) }) × (out' ≡ over (file_of s) out)
written-sample s e out out' written room w =
    let same : file_of (sample_from s.label s.sizes (numbers_of s.arrivals) (times_of s.arrivals)) ≡ file_of s =
    ap (λ (l : List Arrival). file_of (record { label = s.label; sizes = s.sizes; arrivals = l })) (arrivals-back s.arrivals) in
    rw same at (output-whole (sample_refusal s.label s.sizes (numbers_of s.arrivals) (times_of s.arrivals))
    (file_of (sample_from s.label s.sizes (numbers_of s.arrivals) (times_of s.arrivals))) out w e (rw same room))

-- ---- read, then written

-- an accepted file, read and written again, is the same octets
pub written-again : (file : List ℕ) → Octets file → WrittenAgain file
written-again file o sizes numbers times sizes' numbers' times' out out' read written h z room w =
    let i = into-none (length sizes) (length numbers) (length times) file (sym (ap (λ (y : Layout). y.refusal) h.layout) ∙ z) in
    let s = sample_in file in
    let k = refused_none file i.0 in
    let b = file-back file o k in
    let y : read ≡ layout_of (accepted s) = h.layout ∙ ap layout_of i.1 in
    let n = length-map s.arrivals (λ (a : Arrival). a.number) in
    let t = length-map s.arrivals (λ (a : Arrival). a.time) in
    let ls = ap (λ d. (sample_of d).label) (decode-accepted file i.0) in
    let ss : take read.sent sizes' ≡ s.sizes =
    ap₂ take (ap (λ (l : Layout). l.sent) y) (h.filled_sizes ∙ ap (λ d. over (sample_of d).sizes sizes) i.1)
    ∙ over-read s.sizes sizes in
    let ns : take read.arrivals numbers' ≡ numbers_of s.arrivals =
    ap₂ take (ap (λ (l : Layout). l.arrivals) y ∙ sym n) (h.filled_numbers
    ∙ ap (λ d. over (numbers_of (sample_of d).arrivals) numbers) i.1) ∙ over-read (numbers_of s.arrivals) numbers in
    let ts : take read.arrivals times' ≡ times_of s.arrivals =
    ap₂ take (ap (λ (l : Layout). l.arrivals) y ∙ sym t) (h.filled_times ∙ ap (λ d. over (times_of (sample_of d).arrivals) times) i.1)
    ∙ over-read (times_of s.arrivals) times in
    let w' =
    subst (λ (p : List ℕ × List ℕ × List ℕ × List ℕ). WrittenTo p.0 p.1 p.2 p.3 out written out')
    (λ j. (ls j, ss j, ns j, ts j)) w in
    rw b (written-sample s (sample-fit file o k).judged out out' written (rw b at room) w')

-- ---- written, then read

-- an accepted label and lists, written and read again, are the same
pub read_again : (label sizes numbers times : List ℕ) → Below (2 ^ 16) sizes → Below (2 ^ 64) times → ReadAgain label sizes numbers times
read_again label sizes numbers times fs ft out out' sizes₀ numbers₀ times₀ sizes' numbers' times' written read w z ps pn pt h =
    let s = sample_from label sizes numbers times in
    let e = own-none (sample_refusal label sizes numbers times) (file_of s) out w z in
    let q = (label-fit label sizes numbers times e).2.same in
    let n = arrivals-length numbers times q in
    let file = output-read (sample_refusal label sizes numbers times) (file_of s) out w z in
    let fit : FitSample s =
    record { judged = from-none label sizes numbers times e; sizes = fs; times = rw (times-back numbers times q) ft } in
    let d : decode (take written.length out') ≡ accepted s = ap decode file ∙ decode-file s fit in
    let i = into-room (length sizes₀) (length numbers₀) (length times₀) (take written.length out') s d ps (omega arith) (omega arith) in
    record {
      layout =
          h.layout ∙ ap layout_of i ∙ ap (λ (k : ℕ). record { refusal = 0; label = length label; sent = length sizes; arrivals = k }) n;
      same_label = ap (λ x. (sample_of x).label) d;
      same_sizes = h.filled_sizes ∙ ap (λ x. over (sample_of x).sizes sizes₀) i;
      same_numbers =
          h.filled_numbers ∙ ap (λ x. over (numbers_of (sample_of x).arrivals) numbers₀) i
          ∙ ap (λ (l : List ℕ). over l numbers₀) (numbers-back numbers times q);
      same_times =
          h.filled_times ∙ ap (λ x. over (times_of (sample_of x).arrivals) times₀) i
          ∙ ap (λ (l : List ℕ). over l times₀) (times-back numbers times q);
    }
