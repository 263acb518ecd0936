-- The next line ends within the log, for which there is room, and put behind those before it there is one line more (`log-next`).
use Rattle.std.proofs.Common.{ℕ, ◌≡◌, ◌+◌, ◌≤◌, List, length, take, get_or, refl, sym, ap, ap₂, ◌∙◌, arith}
use Rattle.std.proofs.lemmas.List.{length_push}
use Rattle.std.proofs.lemmas.Slice.Zip.{zip_turn, zip_end}
use Rattle.octets.specs.Memory.{over, put}
use Rattle.octets.proofs.Memory.{put-over}
use Rattle.rfc4737.specs.Judge.{arrivals_from}
use Rattle.sample.specs.Format.{item_octets}
use Rattle.textlog.specs.Form.{arrival_line, log_of}
use Rattle.textlog.proofs.WrittenLines.{log-part, log-next, long-next, log-all}
use Rattle.textlog.proofs.writing.put_lines.Goals as goal

pub loop-number-init : goal.loop-number-init
unfolding item_octets
loop-number-init c = record { some = omega arith; ends = refl; written = refl }

pub put_line-at-requires : goal.put_line-at-requires
put_line-at-requires c =
    let a = c.args in
    let l = c.loop-number in
    let i = length l.yielded in
    let t =
    zip_turn a.numbers.now a.times.now l.yielded c.into_iter-number-iterator.result l.number-iterator c.next.new.self c.next.result (cc) (cc)
    l.yielded_by (c.in-Some.number, c.in-Some.time) c.in-Some.is c.next.ensures.steps in
    let n = long-next a.numbers.now a.times.now c.requires.0 i t.0 in
    let m = log-part a.numbers.now a.times.now c.requires.0 (i + 1) in
    let here = ap₂ (λ (x y : ℕ). length (arrival_line (record { number = x; time = y }))) (t.2 0) (t.3 0) in
    omega (arith, here, l.invariant.ends, l.auto.out, c.requires.1)

pub loop-number-preserved : goal.loop-number-preserved
loop-number-preserved c =
    let a = c.args in
    let l = c.loop-number in
    let i = length l.yielded in
    let t =
    zip_turn a.numbers.now a.times.now l.yielded c.into_iter-number-iterator.result l.number-iterator c.next.new.self c.next.result (cc) (cc)
    l.yielded_by (c.in-Some.number, c.in-Some.time) c.in-Some.is c.next.ensures.steps in
    let p = length_push l.yielded (c.in-Some.number, c.in-Some.time) in
    let n = long-next a.numbers.now a.times.now c.requires.0 i t.0 in
    let m = log-part a.numbers.now a.times.now c.requires.0 (i + 1) in
    let e = log-next a.numbers.now a.times.now c.requires.0 i t.0 in
    let xs = arrivals_from a.numbers.now a.times.now in
    let x = arrival_line (record { number = get_or a.numbers.now i 0; time = get_or a.times.now i 0 }) in
    let here = ap₂ (λ (x y : ℕ). arrival_line (record { number = x; time = y })) (t.2 0) (t.3 0) in
    let line = c.put_line-at.ensures in
    let ends : c.put_line-at.result ≡ l.at + length x = line.0 ∙ ap (λ (y : List ℕ). l.at + length y) here in
    let fits : l.at + length x ≤ length a.out.now = omega (arith, l.invariant.ends, c.requires.1) in
    record {
      some = omega (arith, t.0, p);
      ends =
          ends ∙ ap (λ (k : ℕ). k + length x) l.invariant.ends ∙ sym n
          ∙ ap (λ (k : ℕ). length (log_of (take k xs))) (sym p);
      written =
          line.1 ∙ ap (λ (y : List ℕ). put l.at y l.out) here ∙ ap (put l.at x) l.invariant.written
          ∙ put-over l.at (log_of (take i xs)) x a.out.now (sym l.invariant.ends) fits ∙ ap (λ (y : List ℕ). over y a.out.now) (sym e)
          ∙ ap (λ (k : ℕ). over (log_of (take k xs)) a.out.now) (sym p);
    }

pub returns : goal.returns
returns c =
    let a = c.args in
    let l = c.loop-number in
    let t =
    zip_end a.numbers.now a.times.now l.yielded c.into_iter-number-iterator.result l.number-iterator c.next.new.self c.next.result (cc) (cc)
    l.yielded_by c.in-None.is c.next.ensures.steps in
    let e = log-all a.numbers.now a.times.now c.requires.0 (length l.yielded) (omega (arith, t, c.requires.0)) in
    l.invariant.written ∙ ap (λ (y : List ℕ). over y a.out.now) e
