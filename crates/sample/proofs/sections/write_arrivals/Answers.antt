-- A turn puts one arrival's octets, its number and then its time, after those of the arrivals before it (`arrival-put`, `write-from`); at
-- the end count and items are the section.
use Rattle.std.proofs.Common.{ℕ, take, drop, ◌-◌, ◌+◌, ◌≤◌, List, length, sym, ap, ◌∙◌, arith}
use Rattle.std.proofs.lemmas.List.{length_push, length-take, length-drop}
use Rattle.std.proofs.lemmas.Slice.Zip.{zip_turn, zip_end}
use Rattle.octets.specs.BigEndian.{be_octets}
use Rattle.octets.specs.Memory.{put, splice}
use Rattle.octets.proofs.Memory.{taken}
use Rattle.rfc4737.specs.Judge.{arrivals_from}
use Rattle.rfc4737.proofs.Pairs.{arrivals-length}
use Rattle.sample.specs.Format.{number_width, time_width, arrival_width, items_at, item_octets, arrival_octets}
use Rattle.sample.specs.Places.{no_arrival}
use Rattle.sample.proofs.Items.{arrival-long, octets-many}
use Rattle.sample.proofs.Writing.{write-start, write-from, write_done, section-done, arrival-put}
use Rattle.sample.proofs.sections.write_arrivals.Goals as goal

pub loop-number-init : goal.loop-number-init
loop-number-init c =
    let a = c.args in
    let k = c.put_number.auto.out in
    let n = arrivals-length a.numbers.now a.times.now c.requires.0 in
    record {
      next = omega arith;
      written =
          write-start arrival_octets arrival_width arrival-long (arrivals_from a.numbers.now a.times.now) (items_at a.at) c.put_number.new.out
          (omega (arith, c.requires.1));
    }

pub loop-number-preserved : goal.loop-number-preserved
loop-number-preserved c =
    let a = c.args in
    let l = c.loop-number in
    let k = c.put_number.auto.out in
    let n = arrivals-length a.numbers.now a.times.now c.requires.0 in
    let xs = arrivals_from a.numbers.now a.times.now in
    let i = length l.yielded in
    let t =
    zip_turn a.numbers.now a.times.now l.yielded c.into_iter-number-iterator.result l.number-iterator c.next.new.self c.next.result (cc) (cc)
    l.yielded_by (c.in-Some.number, c.in-Some.time) c.in-Some.is c.next.ensures.steps in
    let p = length_push l.yielded (c.in-Some.number, c.in-Some.time) in
    let lent : List ℕ = taken l.start arrival_width l.out in
    let room : arrival_width ≤ length lent =
    omega (arith, length-take (l.start + arrival_width - l.start) (drop l.start l.out), length-drop l.start l.out, l.auto.out, c.requires.1, t.0) in
    record {
      next = omega arith;
      written =
          write-from arrival_octets arrival_width arrival-long xs (items_at a.at) c.put_number.new.out (omega (arith, c.requires.1)) i
          l.invariant.written no_arrival l.start l.invariant.next (omega (arith, t.0))
          (arrival-put a.numbers.now a.times.now i no_arrival lent c.requires.0 t.0 room
          (c.put_number-in-loop-number.ensures.out_after
          ∙ ap (λ (v : ℕ). put 0 (be_octets number_width v) lent) (c.from.ensures ∙ t.2 0))
          (c.put_number-in-loop-number-2.ensures.out_after
          ∙ ap (λ (v : ℕ). put number_width (be_octets time_width v) c.put_number-in-loop-number.new.out) (t.3 0)))
          ∙ ap (λ (m : ℕ). splice (items_at a.at) (item_octets arrival_octets (take m xs)) c.put_number.new.out) (sym p);
    }

pub returns : goal.returns
returns c =
    let a = c.args in
    let l = c.loop-number in
    let k = c.put_number.auto.out in
    let n = arrivals-length a.numbers.now a.times.now c.requires.0 in
    let t = zip_end a.numbers.now a.times.now l.yielded c.into_iter-number-iterator.result l.number-iterator c.next.new.self c.next.result (cc) (cc) l.yielded_by c.in-None.is c.next.ensures.steps in
    let xs = arrivals_from a.numbers.now a.times.now in
    let m = octets-many arrival_octets arrival_width arrival-long xs in
    section-done a.at (length a.numbers.now) (item_octets arrival_octets xs) a.out.now (omega (arith, c.requires.1)) c.put_number.ensures.out_after
    (write_done arrival_octets arrival_width arrival-long xs (items_at a.at) c.put_number.new.out (omega (arith, c.requires.1))
    (length l.yielded) l.invariant.written (omega arith))
