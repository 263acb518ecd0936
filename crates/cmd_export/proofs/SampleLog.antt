-- The log of a sample that is read into lists of length 4,096 or more. They have room for every sample, so the answer of the reader is
-- what the file decodes to, refused or not (`same`). If nothing is refused, the lists begin with the sample's arrivals, which were
-- written over their start. The arrivals are not refused, since the sample is fit (`read-numbers` to `read-lists`). So `textlog::write`
-- writes the sample's log, and its refusal is 8 or none (`log-written`). a, b and c are lengths of lists, r is a refusal, y the answer of
-- the reader, f its contract, z says that it has no refusal; sizes', numbers' and times' are the lists after it, d is the decoded file.
-- Assumes nothing.
use Prim.Native.Nat.{ℕ, zero, suc, ◌≤◌}
use native.Mathlib.Omega.{arith}
use mathlib.Core.Path.{◌≡◌, refl, sym, ap, ◌∙◌, subst}
use mathlib.Core.List.{List, [], ◌∷◌}
use lib.ListN.{length, take, length-map}
use Rattle.octets.specs.Below.{Octets}
use Rattle.octets.specs.Memory.{over}
use Rattle.octets.proofs.Memory.{over_first}
use Rattle.rfc4737.specs.Judge.{sent_most, arrivals_most, numbers_of, times_of, arrivals_from, refusal_of_lists}
use Rattle.rfc4737.proofs.Due.{first-none}
use Rattle.rfc4737.proofs.Pairs.{arrivals-back}
use Rattle.sample.specs.Calls.{decode_into, ReadFrom, unless_short}
use Rattle.sample.specs.Output.{Output}
use Rattle.sample.specs.Decode.{Decoded, accepted, file_refusal, sample_in, decode, sample_of, decoded_refusal, layout_of}
use Rattle.sample.specs.Judge.{judge_label, judge_octets, sample_refusal}
use Rattle.sample.specs.declared.Layout.{Layout}
use Rattle.sample.specs.declared.WriteAnswer.{WriteAnswer}
use Rattle.sample.proofs.Accepted.{found-sample, accepted-fit, accepted-limits}
use Rattle.sample.proofs.Decoded.{decode-accepted}
use Rattle.sample.proofs.RoundTrips.{into-room}
use Rattle.textlog.specs.Calls.{LogWrittenTo}
use Rattle.textlog.specs.Form.{log_of}
use Rattle.cmd_export.specs.SampleLog.{LoggedTo}

-- ---- what is read

-- a refused file is refused alike, whatever the lists
refused-alike : (a b c : ℕ) (file : List ℕ) (r : ℕ) → file_refusal file ≡ suc r → decode_into a b c file ≡ decode file
unfolding decode_into unless_short decode
refused-alike a b c file r e = rw e

-- lists of 4,096 places are long enough for every sample
into-whole : (a b c : ℕ) (file : List ℕ) → Octets file → sent_most ≤ a → arrivals_most ≤ b → arrivals_most ≤ c → (r : ℕ) → file_refusal file ≡ r
    → decode_into a b c file ≡ decode file
into-whole a b c file o p q t zero e =
    let d = decode-accepted file e in
    let l = accepted-limits file (sample_in file) d o in
    into-room a b c file (sample_in file) d (omega (arith, l.sent_fits)) (omega (arith, l.arrivals_fit)) (omega (arith, l.arrivals_fit))
    ∙ sym d
into-whole a b c file o p q t (suc r) e = refused-alike a b c file r e

module _ (file sizes numbers times : List ℕ) (y : Layout) (sizes' numbers' times' : List ℕ)
    (f : ReadFrom file sizes numbers times y sizes' numbers' times') (o : Octets file)
    (p : sent_most ≤ length sizes) (q : arrivals_most ≤ length numbers) (t : arrivals_most ≤ length times) where
  same : decode_into (length sizes) (length numbers) (length times) file ≡ decode file
  same = into-whole (length sizes) (length numbers) (length times) file o p q t (file_refusal file) refl

  -- the answer is the file's own
  read-layout : y ≡ layout_of (decode file)
  read-layout = f.layout ∙ ap layout_of same

  pub read-refusal : y.refusal ≡ decoded_refusal (decode file)
  read-refusal = ap (λ (x : Layout). x.refusal) read-layout

  module _ (z : y.refusal ≡ 0) where
    pub read-sample : decode file ≡ accepted (sample_of (decode file))
    read-sample = found-sample file y read-layout z

    pub read-sent : y.sent ≡ length (sample_of (decode file)).sizes
    read-sent = ap (λ (x : Layout). x.sent) (read-layout ∙ ap layout_of read-sample)

    many : y.arrivals ≡ length (sample_of (decode file)).arrivals
    many = ap (λ (x : Layout). x.arrivals) (read-layout ∙ ap layout_of read-sample)

    -- the first places hold the arrivals
    pub read-numbers : (y.arrivals ≤ length numbers') × (take y.arrivals numbers' ≡ numbers_of (sample_of (decode file)).arrivals)
    read-numbers =
        over_first (numbers_of (sample_of (decode file)).arrivals) numbers (many ∙ sym (length-map (sample_of (decode file)).arrivals _))
        (f.filled_numbers ∙ ap (λ (d : Decoded). over (numbers_of (sample_of d).arrivals) numbers) same)

    pub read-times : (y.arrivals ≤ length times') × (take y.arrivals times' ≡ times_of (sample_of (decode file)).arrivals)
    read-times =
        over_first (times_of (sample_of (decode file)).arrivals) times (many ∙ sym (length-map (sample_of (decode file)).arrivals _))
        (f.filled_times ∙ ap (λ (d : Decoded). over (times_of (sample_of d).arrivals) times) same)

    -- and nothing of them is refused
    pub read-lists : refusal_of_lists (length (sample_of (decode file)).sizes) (numbers_of (sample_of (decode file)).arrivals)
        (times_of (sample_of (decode file)).arrivals) ≡ 0
    unfolding sample_refusal
    read-lists =
        let s = sample_of (decode file) in
        let r = refusal_of_lists (length s.sizes) (numbers_of s.arrivals) (times_of s.arrivals) in
        let h = first-none (judge_label (length s.label)) (judge_octets s.label ∷ r ∷ []) (accepted-fit file s read-sample o).judged in
        (first-none r [] (first-none (judge_octets s.label) (r ∷ []) h.1).1).0

-- ---- the answer

-- an accepted file, of which the lists were filled
pub log-written : (d : Decoded) (out : List ℕ) (written : WriteAnswer) (out' : List ℕ) {k : ℕ} {numbers times : List ℕ}
    → decoded_refusal d ≡ 0
    → refusal_of_lists (length (sample_of d).sizes) (numbers_of (sample_of d).arrivals) (times_of (sample_of d).arrivals) ≡ 0
    → k ≡ length (sample_of d).sizes → numbers ≡ numbers_of (sample_of d).arrivals → times ≡ times_of (sample_of d).arrivals
    → LogWrittenTo k numbers times out written out' → LoggedTo d out written out'
log-written d out written out' z j ek en et w =
    let due = (λ i. refusal_of_lists (ek i) (en i) (et i)) ∙ j ∙ sym z in
    let logs = (λ i. log_of (arrivals_from (en i) (et i))) ∙ ap log_of (arrivals-back (sample_of d).arrivals) in
    subst (λ (p : ℕ × List ℕ). Output p.0 p.1 out written out') (λ i. (due i, logs i)) w
