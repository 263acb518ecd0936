-- Where nothing is refused, label and lists keep their limits, so the offsets that are computed are those of the layout; the three calls
-- write the sections one after the other.
use Rattle.std.proofs.Common.{◌≡◌, length, sym, ap, ◌∙◌, arith}
use Rattle.octets.specs.Memory.{splice}
use Rattle.rfc4737.specs.Judge.{arrivals_from}
use Rattle.sample.specs.Format.{sent_start, arrived_start, last_end, section, size_octets, arrival_octets, item_octets}
use Rattle.sample.proofs.Answers.{write-short, write-filled}
use Rattle.sample.proofs.Exact.{label-fit}
use Rattle.sample.proofs.write_sample.Goals as goal

pub end_of-arrived_at-requires : goal.end_of-arrived_at-requires
end_of-arrived_at-requires c =
    let a = c.args in
    let l = label-fit a.label.now a.sizes.now a.numbers.now a.times.now (sym c.in_ok-check_sample.ensures) in
    omega arith

pub end_of-end-requires : goal.end_of-end-requires
end_of-end-requires c =
    let a = c.args in
    let l = label-fit a.label.now a.sizes.now a.numbers.now a.times.now (sym c.in_ok-check_sample.ensures) in
    omega arith

pub returns-then-out-end : goal.returns-then-out-end
returns-then-out-end c =
    let a = c.args in
    let l = label-fit a.label.now a.sizes.now a.numbers.now a.times.now (sym c.in_ok-check_sample.ensures) in
    let e : c.end_of-end.result ≡ last_end (length a.label.now) (length a.sizes.now) (length a.numbers.now) = omega arith in
    write-short a.label.now a.sizes.now a.numbers.now a.times.now a.out.now c.in_ok-check_sample.ensures l.2.same c.end_of-end.result e c.if-out-end.true

pub write_arrivals-requires : goal.write_arrivals-requires
write_arrivals-requires c =
    let a = c.args in
    let l = label-fit a.label.now a.sizes.now a.numbers.now a.times.now (sym c.in_ok-check_sample.ensures) in
    let p = c.write_sizes.auto.out in
    let q = c.write_label.auto.out in
    (l.2.same, omega arith)

pub overflow_cast-result : goal.overflow_cast-result
overflow_cast-result c =
    let a = c.args in
    let l = label-fit a.label.now a.sizes.now a.numbers.now a.times.now (sym c.in_ok-check_sample.ensures) in
    omega arith

pub returns : goal.returns
returns c =
    let a = c.args in
    let l = label-fit a.label.now a.sizes.now a.numbers.now a.times.now (sym c.in_ok-check_sample.ensures) in
    let m : c.end_of-sent_at.result ≡ sent_start (length a.label.now) = omega arith in
    let k : c.end_of-arrived_at.result ≡ arrived_start (length a.label.now) (length a.sizes.now) = omega arith in
    let e : c.end_of-end.result ≡ last_end (length a.label.now) (length a.sizes.now) (length a.numbers.now) = omega arith in
    write-filled a.label.now a.sizes.now a.numbers.now a.times.now a.out.now c.in_ok-check_sample.ensures l.2.same c.end_of-end.result e
    c.end_of-sent_at.result c.end_of-arrived_at.result m k c.write_arrivals.new.out c.if-out-end.false
    (c.write_arrivals.ensures
    ∙ ap (splice c.end_of-arrived_at.result (section (length a.numbers.now) (item_octets arrival_octets (arrivals_from a.numbers.now a.times.now))))
    (c.write_sizes.ensures
    ∙ ap (splice c.end_of-sent_at.result (section (length a.sizes.now) (item_octets size_octets a.sizes.now))) c.write_label.ensures))
