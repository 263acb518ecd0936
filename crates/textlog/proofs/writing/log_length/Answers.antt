-- A turn is one line more (`long-next`); at the end they are all (`log-all`).
use Rattle.std.proofs.Common.{ℕ, ◌≡◌, ◌+◌, length, take, refl, sym, ap, ap₂, ◌∙◌, arith}
use Rattle.std.proofs.lemmas.List.{length_push}
use Rattle.std.proofs.lemmas.Slice.Zip.{zip_turn, zip_end}
use Rattle.rfc4737.specs.Judge.{arrivals_from}
use Rattle.sample.specs.Format.{item_octets}
use Rattle.textlog.specs.Form.{arrival_line, log_of}
use Rattle.textlog.proofs.WrittenLines.{long-next, log-all}
use Rattle.textlog.proofs.writing.log_length.Goals as goal

pub loop-number-init : goal.loop-number-init
unfolding item_octets
loop-number-init c = record { some = omega arith; so_far = refl; bound = omega arith }

pub overflow_add-total : goal.overflow_add-total
overflow_add-total c =
    omega (arith, c.loop-number.invariant.bound, c.loop-number.invariant.some, c.requires.1, c.line_length-total.ensures.1)

pub loop-number-preserved : goal.loop-number-preserved
loop-number-preserved c =
    let a = c.args in
    let l = c.loop-number in
    let t =
    zip_turn a.numbers.now a.times.now l.yielded c.into_iter-number-iterator.result l.number-iterator c.next.new.self c.next.result (cc) (cc)
    l.yielded_by (c.in-Some.number, c.in-Some.time) c.in-Some.is c.next.ensures.steps in
    let p = length_push l.yielded (c.in-Some.number, c.in-Some.time) in
    let n = long-next a.numbers.now a.times.now c.requires.0 (length l.yielded) t.0 in
    let here : c.line_length-total.result ≡ length (arrival_line _) =
    c.line_length-total.ensures.0 ∙ ap₂ (λ (x y : ℕ). length (arrival_line (record { number = x; time = y }))) (t.2 0) (t.3 0) in
    let next = l.invariant.so_far in
    record {
      some = omega (arith, t.0, p);
      so_far =
          ap₂ (λ (x y : ℕ). x + y) next here ∙ sym n
          ∙ ap (λ (k : ℕ). length (log_of (take k (arrivals_from a.numbers.now a.times.now)))) (sym p);
      bound = omega (arith, l.invariant.bound, c.line_length-total.ensures.1, p);
    }

pub returns : goal.returns
returns c =
    let a = c.args in
    let l = c.loop-number in
    let t =
    zip_end a.numbers.now a.times.now l.yielded c.into_iter-number-iterator.result l.number-iterator c.next.new.self c.next.result (cc) (cc)
    l.yielded_by c.in-None.is c.next.ensures.steps in
    let e = log-all a.numbers.now a.times.now c.requires.0 (length l.yielded) (omega (arith, t, c.requires.0)) in
    (l.invariant.so_far ∙ ap length e, omega (arith, l.invariant.bound, l.invariant.some, c.requires.1))
