-- The code's test is that of `arrival_found`.
use Rattle.std.proofs.Common.{ℕ, ◌≡◌, ◌+◌, ◌*◌, ◌≤◌, length, ◌∙◌, ap, arith}
use borrow.Author.Tests.{lt-ltb, le-ltb}
use Rattle.octets.specs.Memory.{part}
use Rattle.sample.specs.Format.{arrival_width}
use Rattle.sample.specs.Decode.{arrival_in}
use Rattle.sample.specs.Places.{arrivals_at, arrival_found}
use Rattle.sample.proofs.Items.{arrival-taken}
use Rattle.sample.proofs.OfSample.{arrival-of-sample}
use Rattle.sample.proofs.arrival.Goals as goal

pub returns-then-file-end : goal.returns-then-file-end
unfolding arrival_found
returns-then-file-end c =
    let a = c.args in
    let e : record { number = 0; time = 0 } ≡ arrival_found a.file.now a.layout a.i =
    rw (lt-ltb (length a.file.now) (arrivals_at a.layout + arrival_width * a.i + arrival_width) (omega arith)) in
    record { value = e; sample = arrival-of-sample a.file.now a.layout a.i e }

pub returns : goal.returns
unfolding arrival_found
returns c =
    let a = c.args in
    let f = a.file.now in
    let start : ℕ = c.arrivals_at.result + arrival_width * a.i in
    let r : arrivals_at a.layout + arrival_width * a.i + arrival_width ≤ length f = omega arith in
    let e : c.arrival_of.result ≡ arrival_found f a.layout a.i =
    rw (le-ltb (length f) (arrivals_at a.layout + arrival_width * a.i + arrival_width) r)
    (arrival-taken start f c.arrival_of.ensures
    ∙ ap (λ (n : ℕ). arrival_in (part (n + arrival_width * a.i) arrival_width f)) c.arrivals_at.ensures.value) in
    record { value = e; sample = arrival-of-sample f a.layout a.i e }
