-- Arrivals written as records and read again. The octets of a record are those before the receive time, the receive time and the last
-- octet. From them the number and the stamp are read as written (`record-read`). So consecutive records read as the arrivals with their
-- stamps (`items-read`, by induction), none of them lost, since a stamp has at least one second (`arrivals-read`). Stamps rise with times
-- (`stamp-rising`). So if no time goes back, the arrivals are sorted already, and keep their numbers in their order (`records-again`). k
-- is K, l are arrivals and a is one, s and t are times. Assumes nothing.
use Prim.Native.Nat.{ℕ, ◌+◌, ◌-◌, ◌*◌, ◌%◌, ◌^◌, ◌≤◌, ◌<◌}
use native.Mathlib.Omega.{arith}
use mathlib.Core.Bool.{false}
use mathlib.Core.List.{List, [], ◌∷◌, ◌++◌, append_assoc, map}
use mathlib.Core.Path.{◌≡◌, refl, sym, ap, ◌∙◌}
use lib.Dec.{ltb, eqb}
use lib.ListN.{length, take, drop, length-append, length-map}
use lib.Seq.{take_at, drop_at}
use borrow.Author.Tests.{ltb-false, ne_eqb, eq-eqb}
use Rattle.octets.specs.BigEndian.{be_value, be_octets}
use Rattle.octets.specs.Memory.{part}
use Rattle.octets.proofs.BigEndian.{octets-length, value-octets, value-append}
use Rattle.merging.specs.Order.{NotBelow, passing}
use Rattle.merging.proofs.Ordered.{order-rising}
use Rattle.rfc4737.specs.declared.Arrival.{Arrival}
use Rattle.rfc4737.specs.Refusals.{outside, first_refusal, seconds_over}
use Rattle.rfc4737.specs.Judge.{sent_most, arrivals_most, numbers_of}
use Rattle.sample.specs.Format.{items_in, item_octets}
use Rattle.owamp.specs.Record.{record_width, record_in, record_count, is_arrival, records_arrivals}
use Rattle.owamp.specs.Order.{time_of, NotBack, in_time_order}
use Rattle.owamp.specs.Clock.{fractions, from_smallest, written_seconds, written_fraction}
use Rattle.owamp.specs.Judge.{judge_number, judge_numbers, records_refusal, seconds_most, judge_time, judge_seconds}
use Rattle.owamp.specs.Calls.{imported_arrivals, record_octets, records_of}
use Rattle.rfc4737.proofs.Due.{first-none, case-none, not-outside}
use Rattle.rfc4737.proofs.Lists.{All}
use Rattle.sample.proofs.Items.{octets-many}
use Rattle.owamp.proofs.Reading.{Within, numbers-all}
use Rattle.owamp.proofs.Converted.{smallest-numbers}

-- a written receive time as the number of 64 bits that it is
abbrev stamp_of : ℕ → ℕ
stamp_of t = written_seconds t * fractions + written_fraction t

-- it keeps the order
stamp-rising : (s t : ℕ) → s ≤ t → stamp_of s ≤ stamp_of t
stamp-rising s t h = omega arith

-- an arrival with it
abbrev pub stamped : Arrival → Arrival
stamped a = record { number = a.number; time = stamp_of a.time }

-- ---- one record

-- up to the receive timestamp
abbrev before : Arrival → List ℕ
before a = be_octets 4 (a.number - 1) ++ (be_octets 2 1 ++ (be_octets 2 1 ++ be_octets 8 0))

-- the receive timestamp
abbrev received : Arrival → List ℕ
received a = be_octets 4 (written_seconds a.time) ++ be_octets 4 (written_fraction a.time)

-- a record in three parts
parts : (a : Arrival) → record_octets a ≡ before a ++ (received a ++ be_octets 1 255)
unfolding record_octets
parts a = simp append_assoc

pub record-long : (a : Arrival) → length (record_octets a) ≡ record_width
unfolding record_octets
record-long a = simp (length-append, octets-length)

-- what is read from it
record-read : (a : Arrival) → 1 ≤ a.number → a.number ≤ sent_most → written_seconds a.time < 256 ^ 4
    → record_in (record_octets a) ≡ stamped a
unfolding record_in record_octets
record-read a h k s =
    let u : length (before a) ≡ 16 = simp (length-append, octets-length) in
    let v : length (received a) ≡ 8 = simp (length-append, octets-length) in
    let p : part 0 4 (record_octets a) ≡ be_octets 4 (a.number - 1) =
    take_at (be_octets 4 (a.number - 1)) _ 4 (octets-length 4 (a.number - 1)) in
    let q : part 16 8 (record_octets a) ≡ received a =
    ap (λ (l : List ℕ). take 8 (drop 16 l)) (parts a) ∙ ap (take 8) (drop_at (before a) (received a ++ be_octets 1 255) 16 u)
    ∙ take_at (received a) (be_octets 1 255) 8 v in
    let m : be_value (be_octets 4 (a.number - 1)) ≡ a.number - 1 = value-octets 4 (a.number - 1) (omega arith) in
    let f : written_fraction a.time < 256 ^ 4 = omega arith in
    let n : be_value (part 0 4 (record_octets a)) + 1 ≡ a.number =
    ap (λ (l : List ℕ). be_value l + 1) p ∙ (let w : be_value (be_octets 4 (a.number - 1)) + 1 ≡ a.number = omega arith in w) in
    let t : be_value (part 16 8 (record_octets a)) ≡ stamp_of a.time =
    ap be_value q ∙ value-append (be_octets 4 (written_seconds a.time)) (be_octets 4 (written_fraction a.time))
    ∙ rw (
      octets-length 4 (written_fraction a.time),
      value-octets 4 (written_seconds a.time) s,
      value-octets 4 (written_fraction a.time) f,
    ) in
    (λ j. record { number = n j; time = t j })

-- ---- all of them

-- what is known of arrivals whose times can be written
timed : (a : Arrival) (l : List Arrival) → judge_seconds (a ∷ l) ≡ 0 → (written_seconds a.time < 256 ^ 4) × (judge_seconds l ≡ 0)
unfolding judge_seconds judge_time
timed a l e =
    let p = first-none (judge_time a.time) (map (λ (a : Arrival). judge_time a.time) l) e in
    let q =
    ltb-false seconds_most (written_seconds a.time) (case-none (ltb seconds_most (written_seconds a.time)) seconds_over (omega arith)
    p.0) in
    (omega arith, p.1)

-- the records of arrivals are read as the arrivals with stamps
items-read : (k : ℕ) (l : List Arrival) → k ≤ sent_most → All (Within k) l → judge_seconds l ≡ 0
    → items_in record_width record_in (length l) (item_octets record_octets l) ≡ map stamped l
unfolding items_in item_octets
items-read k [] h w s = refl
items-read k (a ∷ l) h w s =
    let q = timed a l s in
    let r : record_in (record_octets a) ≡ stamped a = record-read a w.0.0 (omega (arith, w.0.1)) q.0 in
    rw (
      take_at (record_octets a) (item_octets record_octets l) record_width (record-long a),
      drop_at (record_octets a) (item_octets record_octets l) record_width (record-long a),
      r,
      items-read k l h w.1 q.1,
    )

pub records-many : (l : List Arrival) → length (records_of l) ≡ record_width * length l
unfolding records_of
records-many l = octets-many record_octets record_width record-long l

-- none of them is lost: a stamp is not 0
all-arrived : (l : List Arrival) → passing is_arrival (map stamped l) ≡ map stamped l
unfolding passing
all-arrived [] = refl
all-arrived (a ∷ l) =
    let e : eqb (stamp_of a.time) 0 ≡ false = ne_eqb (stamp_of a.time) 0 (λ q. omega arith) in
    rw (e, all-arrived l)

pub arrivals-read : (k : ℕ) (l : List Arrival) → k ≤ sent_most → judge_numbers k l ≡ 0 → judge_seconds l ≡ 0
    → records_arrivals (records_of l) ≡ map stamped l
unfolding records_arrivals records_of
arrivals-read k l h e s =
    let n : record_count (item_octets record_octets l) ≡ length l = omega (arith, octets-many record_octets record_width record-long l) in
    ap (λ (c : ℕ). passing is_arrival (items_in record_width record_in c (item_octets record_octets l))) n
    ∙ ap (passing is_arrival) (items-read k l h (numbers-all k l e) s) ∙ all-arrived l

stamped-before : (t : ℕ) (l : List Arrival) → NotBelow time_of t l → NotBelow time_of (stamp_of t) (map stamped l)
stamped-before t [] n = tt
stamped-before t (a ∷ l) n = (stamp-rising t a.time n.0, stamped-before t l n.1)

stamped-rising : (l : List Arrival) → NotBack l → NotBack (map stamped l)
stamped-rising [] r = tt
stamped-rising (a ∷ l) r = (stamped-before a.time l r.0, stamped-rising l r.1)

stamped-numbers : (l : List Arrival) → numbers_of (map stamped l) ≡ numbers_of l
stamped-numbers [] = refl
stamped-numbers (a ∷ l) = ap (λ (m : List ℕ). a.number ∷ m) (stamped-numbers l)

stamped-each : (k : ℕ) (l : List Arrival) → map (judge_number k) (map stamped l) ≡ map (judge_number k) l
unfolding judge_number
stamped-each k [] = refl
stamped-each k (a ∷ l) = ap (λ (rs : List ℕ). judge_number k a ∷ rs) (stamped-each k l)

stamped-judged : (k : ℕ) (l : List Arrival) → judge_numbers k (map stamped l) ≡ judge_numbers k l
unfolding judge_numbers
stamped-judged k l = ap first_refusal (stamped-each k l)

-- arrivals of packets 1 to K whose times can be written and do not go back, written as records and read again: none is refused, and they
-- have the same numbers in the same order
pub records-again : (k : ℕ) (l : List Arrival) → 1 ≤ k → k ≤ sent_most → length l ≤ arrivals_most → judge_numbers k l ≡ 0
    → judge_seconds l ≡ 0 → NotBack l
    → (records_refusal k (records_of l) ≡ 0) × (numbers_of (imported_arrivals (records_of l)) ≡ numbers_of l)
unfolding records_refusal imported_arrivals
records-again k l h₁ h₂ m e s r =
    let q : records_arrivals (records_of l) ≡ map stamped l = arrivals-read k l h₂ e s in
    let n : length (records_of l) % record_width ≡ 0 = omega (arith, records-many l) in
    let c : length (records_arrivals (records_of l)) ≡ length l = ap length q ∙ length-map l stamped in
    let j : judge_numbers k (records_arrivals (records_of l)) ≡ 0 = ap (judge_numbers k) q ∙ stamped-judged k l ∙ e in
    let o : outside 0 arrivals_most (length (records_arrivals (records_of l))) ≡ false =
    not-outside 0 arrivals_most _ (omega arith) (omega arith) in (
      simp (eq-eqb _ _ n, not-outside 1 sent_most k h₁ h₂, o, j),
      ap (λ (x : List Arrival). numbers_of (from_smallest (in_time_order x))) q
          ∙ ap (λ (x : List Arrival). numbers_of (from_smallest x)) (order-rising time_of (map stamped l) (stamped-rising l r))
          ∙ sym (smallest-numbers (map stamped l)) ∙ stamped-numbers l,
    )
