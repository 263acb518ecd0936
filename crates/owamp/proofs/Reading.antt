-- The records in turn. Record i + 1 begins at offset 25 * i (`number-stands`, `time-stands`). The receive time is the seconds and the
-- fraction, one after the other. The arrivals among the first i + 1 records are those among the first i and, if it is one, the next
-- (`passing-take`). If no number is refused, every number is from 1 to K (`numbers-all`). os are the octets of the records, i is an index
-- of a record, a the arrival of a record, l are records, v, s and f are numbers read, z is the value read after the end. Assumes nothing.
use Prim.Native.Nat.{ℕ, ◌+◌, ◌-◌, ◌*◌, ◌^◌, ◌≤◌, ◌<◌}
use native.Mathlib.Numerals.{add-one}
use native.Mathlib.Omega.{arith}
use mathlib.Core.Bool.{Bool}
use mathlib.Core.List.{List, [], ◌∷◌, ◌++◌, map}
use mathlib.Core.Path.{◌≡◌, sym, ap, ap₂, ◌∙◌}
use lib.ListN.{length, get_or, take, drop}
use lib.Seq.{drop-cons}
use Rattle.octets.specs.BigEndian.{be_value}
use Rattle.octets.specs.Below.{Below, Octets}
use Rattle.octets.specs.Memory.{part}
use Rattle.octets.proofs.BigEndian.{value-append, value-part}
use Rattle.octets.proofs.Memory.{part_length, part-append, taken, take_snoc}
use Rattle.octets.proofs.Below.{below-cons, below-nil, below-part}
use Rattle.merging.specs.Order.{kept_if, passing}
use Rattle.merging.proofs.Ordered.{passing-append}
use Rattle.rfc4737.specs.declared.Arrival.{Arrival}
use Rattle.rfc4737.specs.Refusals.{number_outside}
use Rattle.rfc4737.specs.Judge.{sent_most, numbers_of}
use Rattle.owamp.specs.Record.{record_width, record_in, record_count, records_in}
use Rattle.owamp.specs.Clock.{fractions}
use Rattle.owamp.specs.Judge.{judge_number, judge_numbers}
use Rattle.sample.specs.Places.{no_arrival}
use Rattle.rfc4737.proofs.Lists.{All}
use Rattle.sample.proofs.Items.{items-length, items-get_or}
use Rattle.rfc4737.proofs.Due.{first-none, limit-none}

-- as many as the octets have
pub records-length : (os : List ℕ) → length (records_in os) ≡ record_count os
records-length os = items-length record_width record_in (record_count os) os

module _ (os : List ℕ) (i : ℕ) (h : i < record_count os) where
  -- the octets of the record
  one : List ℕ
  one = taken (record_width * i) record_width os

  one-length : length one ≡ record_width
  unfolding one
  one-length =
      let e : record_width * i + record_width - record_width * i ≡ record_width = omega arith in
      ap (λ (n : ℕ). length (part (record_width * i) n os)) e ∙ part_length (record_width * i) record_width os (omega arith)

  one-read : record_in one ≡ get_or (records_in os) i no_arrival
  unfolding one
  one-read =
      let e : record_width * i + record_width - record_width * i ≡ record_width = omega arith in
      ap (λ (n : ℕ). record_in (part (record_width * i) n os)) e ∙ sym (items-get_or record_width record_in (record_count os) os i no_arrival h)

  -- the packet number where it stands
  pub number-stands : {v : ℕ} → v ≡ be_value (part 0 4 (taken (record_width * i) record_width os))
      → v + 1 ≡ (get_or (records_in os) i no_arrival).number
  unfolding record_in one
  number-stands e = ap (λ (n : ℕ). n + 1) e ∙ ap (λ (a : Arrival). a.number) one-read

  -- the receive time where it stands: the seconds and the fraction
  pub time-stands : {s f : ℕ} → s ≡ be_value (part 16 4 (taken (record_width * i) record_width os))
      → f ≡ be_value (part 20 4 (taken (record_width * i) record_width os))
      → s * fractions + f ≡ (get_or (records_in os) i no_arrival).time
  unfolding record_in one
  time-stands {s} {f} e g =
      let k : length (part 20 4 one) ≡ 4 = part_length 20 4 one (omega (arith, one-length)) in
      ap₂ (λ (x y : ℕ). x * fractions + y) e g
      ∙ sym (ap (λ (n : ℕ). be_value (part 16 4 one) * 256 ^ n + be_value (part 20 4 one)) k)
      ∙ sym (value-append (part 16 4 one) (part 20 4 one))
      ∙ ap be_value (sym (part-append 16 4 4 one))
      ∙ ap (λ (a : Arrival). a.time) one-read

-- four octets of a record are a number below 2 to the 32
pub four_below : (os : List ℕ) (i at : ℕ) {v : ℕ} → Octets os → v ≡ be_value (part at 4 (taken (record_width * i) record_width os))
    → v < fractions
four_below os i at o e =
    let l : List ℕ = taken (record_width * i) record_width os in
    rw e (value-part 4 at 4 l (below-part 256 (record_width * i) (record_width * i + record_width - record_width * i) os o) (omega arith))

-- ---- what passes, under one record more

module _ {ℓ} {A : Type ℓ} (p : A → Bool) where
  pub passing-take : (l : List A) (i : ℕ) (z : A) → i < length l
      → passing p (take (i + 1) l) ≡ passing p (take i l) ++ kept_if (p (get_or l i z)) (get_or l i z) []
  unfolding passing
  passing-take l i z h = ap (passing p) (take_snoc l i z h) ∙ passing-append p (take i l) (get_or l i z ∷ [])

  pub passing-drop : (l : List A) (i : ℕ) (z : A) → i < length l
      → passing p (drop i l) ≡ kept_if (p (get_or l i z)) (get_or l i z) (passing p (drop (i + 1) l))
  unfolding passing
  passing-drop l i z h = rw add-one (ap (passing p) (drop-cons l i z h))

-- ---- the judge

-- a packet number that lies in 1 to K
abbrev pub Within : ℕ → Arrival → Type 0
Within k a = (1 ≤ a.number) × (a.number ≤ k)

-- numbers that are not refused do
pub numbers-all : (k : ℕ) (l : List Arrival) → judge_numbers k l ≡ 0 → All (Within k) l
unfolding judge_numbers judge_number
numbers-all k [] e = tt
numbers-all k (a ∷ l) e =
    let p = first-none (judge_number k a) (map (judge_number k) l) e in
    (limit-none 1 k a.number number_outside (omega arith) p.0, numbers-all k l p.1)

-- such numbers fit 32 bits
pub numbers_fit : (k : ℕ) (l : List Arrival) → k ≤ sent_most → All (Within k) l → Below (2 ^ 32) (numbers_of l)
numbers_fit k [] h w = below-nil (2 ^ 32) (omega arith)
numbers_fit k (a ∷ l) h w = below-cons (2 ^ 32) a.number (numbers_of l) (omega (arith, w.0.1)) (numbers_fit k l h w.1)
