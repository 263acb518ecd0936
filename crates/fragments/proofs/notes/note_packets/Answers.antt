-- The places of packet p + 1 stand from `from` to `to` (`block_inside`); in order they are a run (`run_of`).
use Rattle.std.proofs.Common.{◌≡◌, ℕ, suc, ◌+◌, ◌<◌, List, length, get_or, refl, sym, ap, subst, ◌∙◌, add-one, arith, rules}
use Rattle.std.specs.List.{All}
use Rattle.merging.specs.Order.{Rising, InOrder}
use Rattle.fragments.specs.Places.{places_of, arrivals_to, piece_key}
use Rattle.fragments.specs.declared.arrivals.Arrivals.{Arrivals}
use Rattle.fragments.specs.Arrivals.{pieces}
use Rattle.fragments.proofs.Laws.{pieces-length}
use Rattle.fragments.proofs.Numbers.{piece-within}
use Rattle.fragments.proofs.Packets.{placed-start, block_inside, block_same, placed-next}
use Rattle.fragments.proofs.Runs.{places-rise, places-short, short-all, run_of}
use Rattle.fragments.proofs.notes.note_packets.Goals as goal

none : (ns : List ℕ) → 0 ≡ arrivals_to ns 0
unfolding arrivals_to
none ns = refl

-- there are as many arrivals as numbers
many : (a : Arrivals) → length (pieces a) ≡ length a.numbers.now
many a = pieces-length a.numbers.now a.times.now a.lengths.now a.mores.now a.offsets.now

pub loop-p-init : goal.loop-p-init
loop-p-init c =
    let n = many c.args.arrivals.now in
    let q = c.requires in
    record {
      start = none _;
      placed = placed-start _ _ _ _ refl q.3 q.4;
      noted = record {
        of_marks = q.5 ∙ sym n;
        of_wholes = q.6 ∙ sym n;
        at = λ i h g. absurd (omega (arith, (piece-within _ _ _ _ _ _ q.0 i h).0));
      };
    }

pub offset_bounds-places-from : goal.offset_bounds-places-from
offset_bounds-places-from c =
    let e : c.from-to.result ≡ get_or c.args.ends.now c.loop-p.p 0 = search rules in
    let i = c.loop-p.invariant in
    let b = block_inside _ _ c.loop-p.p c.loop-p-test.true _ _ i.start (e ∙ c.requires.4.end c.loop-p.p c.loop-p-test.true) _ i.placed in
    omega (arith, b.0, b.1.0, i.placed.room, c.requires.2)

pub slice_bounds-run-count : goal.slice_bounds-run-count
slice_bounds-run-count c =
    let e : c.from-to.result ≡ get_or c.args.ends.now c.loop-p.p 0 = search rules in
    let i = c.loop-p.invariant in
    (block_inside _ _ c.loop-p.p c.loop-p-test.true _ _ i.start (e ∙ c.requires.4.end c.loop-p.p c.loop-p-test.true) _ i.placed).0

pub slice_bounds-run-start : goal.slice_bounds-run-start
slice_bounds-run-start c =
    let e : c.from-to.result ≡ get_or c.args.ends.now c.loop-p.p 0 = search rules in
    let i = c.loop-p.invariant in
    let b = block_inside _ _ c.loop-p.p c.loop-p-test.true _ _ i.start (e ∙ c.requires.4.end c.loop-p.p c.loop-p-test.true) _ i.placed in
    omega (arith, b.0, b.1.0)

pub slice_bounds-run-end : goal.slice_bounds-run-end
slice_bounds-run-end c =
    let e : c.from-to.result ≡ get_or c.args.ends.now c.loop-p.p 0 = search rules in
    let i = c.loop-p.invariant in
    let b = block_inside _ _ c.loop-p.p c.loop-p-test.true _ _ i.start (e ∙ c.requires.4.end c.loop-p.p c.loop-p-test.true) _ i.placed in
    omega (arith, b.0, b.1.0)

pub put_in_order-requires : goal.put_in_order-requires
put_in_order-requires c =
    let e : c.from-to.result ≡ get_or c.args.ends.now c.loop-p.p 0 = search rules in
    let i = c.loop-p.invariant in
    let ns : List ℕ = c.args.arrivals.now.numbers.now in
    let b = block_inside _ _ c.loop-p.p c.loop-p-test.true _ _ i.start (e ∙ c.requires.4.end c.loop-p.p c.loop-p-test.true) _ i.placed in
    let s = block_same _ _ c.loop-p.p c.loop-p-test.true _ _ i.start (e ∙ c.requires.4.end c.loop-p.p c.loop-p-test.true) _ i.placed in
    record {
      rising = subst (Rising (λ (x : ℕ). x)) (sym s) (places-rise ns (suc c.loop-p.p));
      short = subst (All (λ (x : ℕ). x < 65536)) (sym s) (places-short ns (suc c.loop-p.p) (omega (arith, c.requires.2)));
      room = omega (arith, b.0, b.1.0, i.placed.room, c.requires.2);
    }

pub note_run-requires : goal.note_run-requires
note_run-requires c =
    let e : c.from-to.result ≡ get_or c.args.ends.now c.loop-p.p 0 = search rules in
    let i = c.loop-p.invariant in
    let a = c.args.arrivals.now in
    let s =
    block_same _ _ c.loop-p.p c.loop-p-test.true _ _ i.start (e ∙ c.requires.4.end c.loop-p.p c.loop-p-test.true) _ i.placed
    ∙ ap (places_of a.numbers.now) (sym (add-one c.loop-p.p)) in (
      run_of a.numbers.now a.times.now a.lengths.now a.mores.now a.offsets.now (short-all a.lengths.now a.short) (c.loop-p.p + 1)
          c.put_in_order.new.places
          (subst (λ (m : List ℕ). InOrder (piece_key a.lengths.now a.offsets.now) m c.put_in_order.new.places) s c.put_in_order.ensures),
      i.noted,
    )

pub loop-p-preserved : goal.loop-p-preserved
loop-p-preserved c =
    let e : c.from-to.result ≡ get_or c.args.ends.now c.loop-p.p 0 = search rules in
    let i = c.loop-p.invariant in
    let ns = c.args.arrivals.now.numbers.now in
    let end = e ∙ c.requires.4.end c.loop-p.p c.loop-p-test.true in
    record {
      start = end ∙ ap (arrivals_to ns) (sym (add-one c.loop-p.p));
      placed = placed-next _ _ c.loop-p.p c.loop-p-test.true _ _ i.start end _ i.placed c.put_in_order.new.places c.put_in_order.auto.places;
      noted = c.note_run.ensures;
    }

pub returns : goal.returns
returns c =
    let q = c.requires in
    record {
      at = λ i h. c.loop-p.invariant.noted.at i h (omega (arith, (piece-within _ _ _ _ _ _ q.0 i h).1, c.loop-p-test.false));
    }
