-- The writer. A record is seven numbers written one after the other into 25 octets, which is one put of all of them (`record-put`, by
-- `chain` for each after the first). The first refusal of a file is its own or that of its times (`own-refusal`, `times-refusal`).
-- Written and read again (`read_again`): if nothing is refused, the buffer begins with the records and the file is accepted. So its
-- numbers are from 1 to K, and `records-again` gives what is read. a to g are octets and d₁ to d₇ the buffer after each put, s and f are
-- the seconds and the fraction of time t; y is the layout of a file, r a refusal, l are arrivals, k is K. Assumes nothing.
use Prim.Native.Nat.{ℕ, zero, suc, ◌+◌, ◌-◌, ◌≤◌, ◌<◌}
use native.Mathlib.Omega.{arith}
use mathlib.Core.List.{List, [], ◌∷◌, ◌++◌, append_assoc}
use mathlib.Core.Path.{◌≡◌, refl, sym, ap, subst, ◌∙◌}
use lib.ListN.{length, get_or, length-append, length-map}
use borrow.Author.Tests.{le-ltb}
use Rattle.octets.specs.Below.{Octets}
use Rattle.octets.specs.BigEndian.{be_octets}
use Rattle.octets.specs.Memory.{over, put}
use Rattle.octets.proofs.BigEndian.{octets-length}
use Rattle.octets.proofs.Memory.{put_next}
use Rattle.rfc4737.specs.declared.Arrival.{Arrival}
use Rattle.rfc4737.specs.Refusals.{first_refusal}
use Rattle.rfc4737.specs.Judge.{numbers_of}
use Rattle.sample.specs.Decode.{decode, sample_of, decoded_refusal, layout_of, accepted}
use Rattle.sample.specs.Output.{if_none}
use Rattle.owamp.specs.Record.{record_width, records_arrivals}
use Rattle.owamp.specs.Clock.{written_seconds, written_fraction}
use Rattle.owamp.specs.Judge.{judge_number, judge_numbers, judge_seconds}
use Rattle.owamp.specs.Calls.{import_refusal, imported_arrivals, RecordsImportedFrom, record_octets, records_of, arrivals_of_file, export_refusal}
use Rattle.owamp.specs.RoundTrip.{RecordsReadAgain}
use Rattle.sample.specs.Places.{no_arrival}
use Rattle.sample.specs.declared.Layout.{Layout}
use Rattle.rfc4737.proofs.Due.{first-none, first_next, first_one, not-outside}
use Rattle.sample.proofs.Output.{own-none, output-read}
use Rattle.sample.proofs.Accepted.{found-sample, accepted-limits, number-within}
use Rattle.owamp.proofs.RoundTrips.{records-again, arrivals-read, stamped}

-- ---- one record into 25 octets

-- the next w octets
chain : (at w : ℕ) (xs : List ℕ) (v : ℕ) (old : List ℕ) {d d' : List ℕ} → length xs ≡ at → at + w ≤ length old → d ≡ put 0 xs old
    → d' ≡ put at (be_octets w v) d
    → d' ≡ put 0 (xs ++ be_octets w v) old
chain at w xs v old e h p q =
    let l : length (be_octets w v) ≡ w = octets-length w v in
    q ∙ ap (put at (be_octets w v)) p ∙ put_next 0 at xs (be_octets w v) old (omega arith) (omega arith)

-- their number
longer : (at w : ℕ) (xs : List ℕ) (v : ℕ) → length xs ≡ at → length (xs ++ be_octets w v) ≡ at + w
longer at w xs v e =
    length-append xs (be_octets w v) ∙ (let l = octets-length w v in let q : length xs + length (be_octets w v) ≡ at + w = omega arith in q)

-- the seven numbers of a record
pub record-put : (n t : ℕ) (old : List ℕ) {d₁ d₂ d₃ d₄ d₅ d₆ d₇ : List ℕ} {s f : ℕ} → length old ≡ record_width
    → d₁ ≡ put 0 (be_octets 4 (n - 1)) old → d₂ ≡ put 4 (be_octets 2 1) d₁ → d₃ ≡ put 6 (be_octets 2 1) d₂ → d₄ ≡ put 8 (be_octets 8 0) d₃
    → s ≡ written_seconds t → d₅ ≡ put 16 (be_octets 4 s) d₄ → f ≡ written_fraction t → d₆ ≡ put 20 (be_octets 4 f) d₅
    → d₇ ≡ put 24 (be_octets 1 255) d₆
    → d₇ ≡ put 0 (record_octets (record { number = n; time = t })) old
unfolding record_octets
record-put n t old {s = s} {f = f} l p₁ p₂ p₃ p₄ es p₅ ef p₆ p₇ =
    let a : List ℕ = be_octets 4 (n - 1) in
    let b : List ℕ = a ++ be_octets 2 1 in
    let c : List ℕ = b ++ be_octets 2 1 in
    let d : List ℕ = c ++ be_octets 8 0 in
    let e : List ℕ = d ++ be_octets 4 s in
    let g : List ℕ = e ++ be_octets 4 f in
    let la : length a ≡ 4 = octets-length 4 (n - 1) in
    let lb : length b ≡ 6 = longer 4 2 a 1 la in
    let lc : length c ≡ 8 = longer 6 2 b 1 lb in
    let ld : length d ≡ 16 = longer 8 8 c 0 lc in
    let le : length e ≡ 20 = longer 16 4 d s ld in
    let lg : length g ≡ 24 = longer 20 4 e f le in
    chain 24 1 g 255 old lg (omega arith)
    (chain 20 4 e f old le (omega arith)
    (chain 16 4 d s old ld (omega arith)
    (chain 8 8 c 0 old lc (omega arith)
    (chain 6 2 b 1 old lb (omega arith)
    (chain 4 2 a 1 old la (omega arith) p₁ p₂) p₃) p₄) p₅) p₆) p₇
    ∙ ap (λ (x : List ℕ). put 0 x old) (let r : g ++ be_octets 1 255
    ≡ record_octets (record { number = n; time = t }) = simp (append_assoc, es, ef) in r)

-- ---- the file

-- the layout of an accepted file has the number of its arrivals
pub found-many : (file : List ℕ) (y : Layout) → y ≡ layout_of (decode file) → y.arrivals ≡ length (arrivals_of_file file)
found-many file y e = ap (λ (x : Layout). x.arrivals) e

-- the refusal of the layout is the file's
pub found-refusal : (file : List ℕ) (y : Layout) → y ≡ layout_of (decode file) → y.refusal ≡ decoded_refusal (decode file)
found-refusal file y e = ap (λ (x : Layout). x.refusal) e

-- ---- the answers

module _ (file : List ℕ) where
  -- the file's own refusal
  pub own-refusal : (r : ℕ) → r ≡ decoded_refusal (decode file) → (r ≡ 0 → ⊥) → r ≡ export_refusal file
  unfolding export_refusal
  own-refusal zero e n = absurd (n refl)
  own-refusal (suc r) e n = ap (λ (x : ℕ). first_refusal (x ∷ judge_seconds (arrivals_of_file file) ∷ [])) e

  -- where there is none, that of the times alone
  pub times-refusal : (r : ℕ) → decoded_refusal (decode file) ≡ 0 → r ≡ judge_seconds (arrivals_of_file file) → r ≡ export_refusal file
  unfolding export_refusal
  times-refusal r z e = e ∙ sym (first_next _ (judge_seconds (arrivals_of_file file) ∷ []) z ∙ first_one _)

-- ---- read again

-- numbers that lie in 1 to K
numbers-within : (k : ℕ) (l : List Arrival) → ((i : ℕ) → i < length l → (1 ≤ (get_or l i no_arrival).number)
    × ((get_or l i no_arrival).number ≤ k)) → judge_numbers k l ≡ 0
unfolding judge_numbers judge_number
numbers-within k [] h = refl
numbers-within k (a ∷ l) h =
    let p = h 0 (omega arith) in
    rw (not-outside 1 k a.number p.0 p.1) (numbers-within k l (λ i q. h (suc i) (omega arith)))

pub read_again : (file : List ℕ) → Octets file → RecordsReadAgain file
unfolding export_refusal import_refusal imported_arrivals
read_again file o out out' numbers times numbers' times' written read w z r hn ht i =
    let l : List Arrival = arrivals_of_file file in
    let k : ℕ = length (sample_of (decode file)).sizes in
    let rs : List ℕ = records_of l in
    let p₁ = first-none (decoded_refusal (decode file)) (judge_seconds l ∷ []) (own-none (export_refusal file) rs out w z) in
    let p₂ = first-none (judge_seconds l) [] p₁.1 in
    let d : decode file ≡ accepted (sample_of (decode file)) = found-sample file (layout_of (decode file)) refl p₁.0 in
    let m = accepted-limits file (sample_of (decode file)) d o in
    let j : judge_numbers k l ≡ 0 = numbers-within k l (number-within file (sample_of (decode file)) d o no_arrival) in
    let t = output-read (export_refusal file) rs out w z in
    let g : RecordsImportedFrom k rs numbers times read numbers' times' =
    subst (λ (x : List ℕ). RecordsImportedFrom k x numbers times read numbers' times') t i in
    let a = records-again k l m.sent_some m.sent_fits m.arrivals_fit j p₂.0 r in
    let c : length (records_arrivals rs) ≡ length l = ap length (arrivals-read k l m.sent_fits j p₂.0) ∙ length-map l stamped in
    let b : import_refusal k (length numbers) (length times) rs ≡ 0 = simp (a.0, c, le-ltb _ _ hn, le-ltb _ _ ht) in
    let x : read.refusal ≡ 0 = g.refusal ∙ b in
    let n : length (imported_arrivals rs) ≡ length l =
    sym (length-map (imported_arrivals rs) (λ (x : Arrival). x.number)) ∙ ap length a.1 ∙ length-map l (λ (x : Arrival). x.number) in
    let y : read.arrivals ≡ length l = g.arrivals ∙ ap (λ (r : ℕ). if_none r (length (imported_arrivals rs)) 0) x ∙ n in (
      (λ v. record { refusal = x v; arrivals = y v }),
      g.filled_numbers ∙ ap (λ (r : ℕ). if_none r (over (numbers_of (imported_arrivals rs)) numbers) numbers) x
          ∙ ap (λ (x : List ℕ). over x numbers) a.1,
    )
