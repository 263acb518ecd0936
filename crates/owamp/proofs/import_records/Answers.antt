-- If nothing is refused, `fill_arrivals` leaves the sorted arrivals, so `to_microseconds` may subtract the first time, which is the
-- smallest (`times-converted`).
use Rattle.std.proofs.Common.{◌≡◌, ℕ, zero, suc, ◌-◌, ◌<◌, ◌≤◌, List, [], ◌∷◌, ◌++◌, map, length, get_or, take, drop, refl, sym, ap, ◌∙◌, arith}
use lib.Seq.{length-take-le, get_or-take}
use Rattle.std.proofs.lemmas.Result.{err_from_is_err_and}
use Rattle.octets.specs.Memory.{over}
use Rattle.merging.proofs.Ordered.{in_order-ordered, order-length}
use Rattle.rfc4737.proofs.Refused.{number-above}
use Rattle.owamp.specs.Record.{records_arrivals}
use Rattle.owamp.specs.Order.{time_of, in_time_order}
use Rattle.owamp.specs.Clock.{microseconds}
use Rattle.owamp.proofs.Answers.{none-refused, import-refused, import-short-numbers, import-short-times, import-filled, filled-first}
use Rattle.owamp.proofs.Converted.{after, after-length, times-converted}
use Rattle.owamp.proofs.Reading.{numbers_fit}
use Rattle.owamp.proofs.import_records.Goals as goal
use Rattle.owamp.proofs.import_records.Goals.{then-numbers-count-via-then-numbers-count, then-numbers-count-via-else-numbers-count+then-times-count}

-- the first of the first n is the first of all
same-base : (n : ℕ) (T : List ℕ) → map (λ (s : ℕ). microseconds s - microseconds (get_or (take n T) 0 0)) (take n T)
    ≡ after n (microseconds (get_or T 0 0)) T
same-base zero T = refl
same-base (suc n) [] = refl
same-base (suc n) (t ∷ T) = refl

-- the first n replaced by as many values
filled : (n : ℕ) (x values old : List ℕ) → length values ≡ n → x ≡ values → x ++ drop n old ≡ over values old
filled n x values old e q = ap (λ (l : List ℕ). l ++ drop n old) q ∙ ap (λ (j : ℕ). values ++ drop j old) (sym e)

pub returns-in_err-count : goal.returns-in_err-count
returns-in_err-count c =
    let a = c.args in
    let p = err_from_is_err_and c.from_residual.result c.from_residual.ensures.1 in
    let d = c.in_err-count.field-0.0 in
    rw (p.1, p.2)
    (import-refused a.k a.records.now a.numbers.now a.times.now _ c.in_err-count.ensures.refusal
    (λ q. absurd (omega (arith, number-above d, q))))

pub returns-then-numbers-count : goal.returns-then-numbers-count
returns-then-numbers-count c =
    let a = c.args in
    let z = sym c.in_ok-count.ensures.refusal in
    elim c.then-numbers-count.branch [
      | then-numbers-count-via-then-numbers-count w
          ↦ import-short-numbers a.k a.records.now a.numbers.now a.times.now z c.in_ok-count.ensures.arrivals w.if-numbers-count.true
      | then-numbers-count-via-else-numbers-count+then-times-count w
          ↦ import-short-times a.k a.records.now a.numbers.now a.times.now z c.in_ok-count.ensures.arrivals w.if-times-count.true
    ]

pub fill_arrivals-requires : goal.fill_arrivals-requires
fill_arrivals-requires c =
    let a = c.args in
    let f = none-refused a.k a.records.now (sym c.in_ok-count.ensures.refusal) in (
      omega (arith, c.if-numbers-count.false, c.in_ok-count.ensures.arrivals),
      omega (arith, c.if-times-count.false, c.in_ok-count.ensures.arrivals),
      numbers_fit a.k (records_arrivals a.records.now) f.most f.numbers,
      f.few,
    )

pub to_microseconds-requires : goal.to_microseconds-requires
to_microseconds-requires c =
    let T : List ℕ = c.fill_arrivals.new.times in
    let n : ℕ = c.in_ok-count.count in
    λ i h.
    let m : i < n = omega (arith, h, length-take-le n T (omega (arith, c.fill_arrivals.auto.times, c.if-times-count.false))) in
    rw (get_or-take n T 0 0 (omega arith), get_or-take n T i 0 m)
    (filled-first c.args.records.now c.args.times.now c.fill_arrivals.ensures.1 i (omega (arith, c.in_ok-count.ensures.arrivals)))

pub overflow_cast-result : goal.overflow_cast-result
overflow_cast-result c =
    omega (
      arith,
      (none-refused c.args.k c.args.records.now (sym c.in_ok-count.ensures.refusal)).few,
      c.in_ok-count.ensures.arrivals,
    )

pub returns : goal.returns
returns c =
    let a = c.args in
    let os : List ℕ = a.records.now in
    let l = records_arrivals os in
    let T : List ℕ = c.fill_arrivals.new.times in
    let n : ℕ = c.in_ok-count.count in
    let r : n ≤ length T = omega (arith, c.fill_arrivals.auto.times, c.if-times-count.false) in
    let e = c.in_ok-count.ensures.arrivals in
    let b : ℕ = microseconds (get_or T 0 0) in
    let t =
    times-converted (in_time_order l) n a.times.now (in_order-ordered time_of l).rising (e ∙ sym (order-length time_of l))
    c.fill_arrivals.ensures.1
    (filled n _ (after n b T) T (after-length n b T r) (c.to_microseconds.ensures ∙ same-base n T)) in
    import-filled a.k os a.numbers.now a.times.now n (sym c.in_ok-count.ensures.refusal) e (omega (arith, c.if-numbers-count.false))
    (omega (arith, c.if-times-count.false)) c.fill_arrivals.ensures.0 t
