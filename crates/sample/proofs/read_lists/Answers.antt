-- The layout is the file's, so the values lie within the file and the lists that are long enough have room for them.
use Rattle.std.proofs.Common.{ℕ, ◌∙◌, drop, sym, ap, arith}
use Rattle.std.proofs.lemmas.Result.{err_from_is_err_and}
use Rattle.octets.specs.BigEndian.{be_value}
use Rattle.octets.specs.Memory.{over}
use Rattle.rfc4737.specs.Judge.{numbers_of, times_of}
use Rattle.rfc4737.proofs.Refused.{number-above}
use Rattle.sample.specs.Format.{size_width, arrival_width, items_in}
use Rattle.sample.specs.Decode.{arrival_in}
use Rattle.sample.proofs.Answers.{read-refused, read_short, room-found, read-filled}
use Rattle.sample.proofs.read_lists.Goals as goal

pub returns-in_err-layout : goal.returns-in_err-layout
returns-in_err-layout c =
    let a = c.args in
    let p = err_from_is_err_and c.from_residual.result c.from_residual.ensures.1 in
    rw (p.1, p.2) (read-refused a.file.now a.sizes.now a.numbers.now a.times.now _ c.in_err-layout.ensures.value (number-above _))

pub returns-then-too_short : goal.returns-then-too_short
returns-then-too_short c =
    let a = c.args in
    let y = c.in_ok-layout in
    read_short a.file.now a.sizes.now a.numbers.now a.times.now y.layout y.ensures.value y.ensures.accepted
    (sym c.too_short.ensures ∙ c.if-too_short.true)

pub fill_sizes-requires : goal.fill_sizes-requires
fill_sizes-requires c =
    let a = c.args in
    let y = c.in_ok-layout in
    let w =
    room-found a.file.now a.sizes.now a.numbers.now a.times.now y.layout y.ensures.value y.ensures.accepted
    (sym c.too_short.ensures ∙ c.if-too_short.false) in
    let p = c.sizes_at.ensures in
    (omega arith, omega arith)

pub fill_arrivals-requires : goal.fill_arrivals-requires
fill_arrivals-requires c =
    let a = c.args in
    let y = c.in_ok-layout in
    let w =
    room-found a.file.now a.sizes.now a.numbers.now a.times.now y.layout y.ensures.value y.ensures.accepted
    (sym c.too_short.ensures ∙ c.if-too_short.false) in
    let p = c.arrivals_at.ensures.value in
    (omega arith, omega arith, omega arith)

pub returns : goal.returns
returns c =
    let a = c.args in
    let f = a.file.now in
    let y = c.in_ok-layout in
    read-filled f a.sizes.now a.numbers.now a.times.now y.layout y.ensures.value y.ensures.accepted
    c.fill_sizes.new.sizes c.fill_arrivals.new.numbers c.fill_arrivals.new.times
    (sym c.too_short.ensures ∙ c.if-too_short.false)
    (c.fill_sizes.ensures ∙ ap (λ (p : ℕ). over (items_in size_width be_value y.layout.sent (drop p f)) a.sizes.now) c.sizes_at.ensures)
    (c.fill_arrivals.ensures.0
    ∙ ap (λ (p : ℕ). over (numbers_of (items_in arrival_width arrival_in y.layout.arrivals (drop p f))) a.numbers.now) c.arrivals_at.ensures.value)
    (c.fill_arrivals.ensures.1
    ∙ ap (λ (p : ℕ). over (times_of (items_in arrival_width arrival_in y.layout.arrivals (drop p f))) a.times.now) c.arrivals_at.ensures.value)
