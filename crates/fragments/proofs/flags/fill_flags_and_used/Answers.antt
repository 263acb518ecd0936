-- The laws of Filling give the values of the next arrival (`flag-here`, `usable-here`, `expected-here`).
use Rattle.std.proofs.Common.{false, ◌≡◌, ℕ, ◌+◌, ◌-◌, ◌≤◌, ◌<◌, List, ◌++◌, length, get_or, take, drop, refl, sym, ap, ◌∙◌, arith, append-nil}
use lib.Seq.{length-take-le, get_or-append-add, get_or-drop}
use lib.ListN.{drop_of_length-le}
use Rattle.octets.specs.Memory.{over}
use Rattle.octets.proofs.Memory.{fill-next, fill_done}
use Rattle.rfc4737.specs.Judge.{sent_most}
use Rattle.fragments.specs.declared.Piece.{Piece}
use Rattle.fragments.specs.declared.arrivals.Arrivals.{Arrivals}
use Rattle.fragments.specs.Order.{flags}
use Rattle.fragments.specs.Usable.{usable}
use Rattle.fragments.specs.Private.{no_piece, NumbersWithin}
use Rattle.fragments.specs.Arrivals.{pieces}
use Rattle.fragments.proofs.Laws.{pieces-length}
use Rattle.fragments.proofs.Numbers.{piece-within}
use Rattle.fragments.proofs.Copies.{copy-here}
use Rattle.fragments.proofs.Seen.{seen_start, seen_next}
use Rattle.fragments.proofs.Filling.{expected-none, flags-many, usable-many, flag-here, usable-here, expected-here}
use Rattle.fragments.proofs.flags.fill_flags_and_used.Goals as goal

-- what stands at i is as it was
read_left : (xs old : List ℕ) (i : ℕ) {d : List ℕ} → i ≤ length xs → d ≡ take i xs ++ drop i old → get_or d i 0 ≡ get_or old i 0
read_left xs old i h e =
    let t : length (take i xs) ≡ i = length-take-le i xs h in
    let z : length (take i xs) + 0 ≡ i = omega arith in
    let y : i + 0 ≡ i = omega arith in
    ap (λ (l : List ℕ). get_or l i 0) e ∙ sym (ap (λ (j : ℕ). get_or (take i xs ++ drop i old) j 0) z)
    ∙ get_or-append-add (take i xs) (drop i old) 0 0 ∙ get_or-drop i old 0 0
    ∙ ap (λ (j : ℕ). get_or old j 0) y

-- as many values as there is memory are all of it
over-all : (xs old : List ℕ) → length old ≤ length xs → over xs old ≡ xs
over-all xs old h = ap (λ (l : List ℕ). xs ++ l) (drop_of_length-le old h) ∙ append-nil xs

-- there are as many arrivals, flags and usable values as numbers
many : (a : Arrivals) → let n = length a.numbers.now in
    (length (pieces a) ≡ n) × (length (flags (pieces a)) ≡ n) × (length (usable (pieces a)) ≡ n)
many a =
    let e = pieces-length a.numbers.now a.times.now a.lengths.now a.mores.now a.offsets.now in
    (e, flags-many (pieces a) ∙ e, usable-many (pieces a) ∙ e)

-- the number of the arrival at i lies in 1 to 4,096
within : (a : Arrivals) (i : ℕ) (p : Piece) → NumbersWithin sent_most a.numbers.now → i < length a.numbers.now → p ≡ get_or (pieces a) i no_piece
    → (1 ≤ p.number) × (p.number ≤ sent_most)
within a i p n h e = rw e (piece-within sent_most _ _ _ _ _ n i (omega (arith, many a)))

pub loop-i-init : goal.loop-i-init
loop-i-init c = record { flagged = refl; used = refl; expected = expected-none; seen = seen_start _ }

pub overflow_sub-p : goal.overflow_sub-p
overflow_sub-p c =
    (within c.args.arrivals.now c.loop-i.i _ c.requires.0 (omega (arith, c.loop-i-test.true, c.len-i-end.ensures)) c.get-piece.ensures).0

pub bounds-seen-p : goal.bounds-seen-p
bounds-seen-p c =
    omega (
      arith,
      within c.args.arrivals.now c.loop-i.i _ c.requires.0 (omega (arith, c.loop-i-test.true, c.len-i-end.ensures)) c.get-piece.ensures,
    )

pub bounds-seen-p-in-loop-i : goal.bounds-seen-p-in-loop-i
bounds-seen-p-in-loop-i c =
    omega (
      arith,
      within c.args.arrivals.now c.loop-i.i _ c.requires.0 (omega (arith, c.loop-i-test.true, c.len-i-end.ensures)) c.get-piece.ensures,
    )

pub expected_after-expected-requires : goal.expected_after-expected-requires
expected_after-expected-requires c =
    omega (
      arith,
      within c.args.arrivals.now c.loop-i.i _ c.requires.0 (omega (arith, c.loop-i-test.true, c.len-i-end.ensures)) c.get-piece.ensures,
    )

pub loop-i-preserved : goal.loop-i-preserved
loop-i-preserved c =
    let a = c.args.arrivals.now in
    let q = c.requires in
    let b = c.get-piece in
    let found = c.is_copy-copy in
    let inv = c.loop-i.invariant in
    let xs : List Piece = pieces a in
    let i : ℕ = c.loop-i.i in
    let m = many a in
    let g : i < length a.numbers.now = omega (arith, c.loop-i-test.true, c.len-i-end.ensures) in
    let v = within a i b.result q.0 g b.ensures in
    let h : i < length xs = omega (arith, m) in
    let copy =
    copy-here b.result (take i xs) found.result (get_or c.loop-i.flagged i 0) (get_or c.loop-i.seen (b.result.number - 1) false)
    found.ensures (read_left (flags xs) c.args.flagged.now i (omega (arith, m)) inv.flagged ∙ rw b.ensures (q.4.at i h).0)
    (inv.seen.at b.result.number v.0 v.1) in
    record {
      flagged =
          fill-next (flags xs) c.args.flagged.now i 0 (omega (arith, m)) (omega (arith, m, q.2)) inv.flagged
          (flag-here xs i b.result c.loop-i.expected found.result h b.ensures copy inv.expected _ c.flag_of.ensures);
      used =
          fill-next (usable xs) c.args.used.now i 0 (omega (arith, m)) (omega (arith, m, q.3)) inv.used
          (usable-here xs i b.result c.loop-i.expected found.result h b.ensures copy inv.expected _
          (get_or c.loop-i.used i 0) c.usable_of.ensures
          (read_left (usable xs) c.args.used.now i (omega (arith, m)) inv.used ∙ rw b.ensures (q.4.at i h).1));
      expected =
          expected-here xs i b.result c.loop-i.expected found.result h b.ensures copy inv.expected _
          c.expected_after-expected.ensures;
      seen = seen_next xs i _ b.result h b.ensures v.0 v.1 c.seen_after.ensures inv.seen;
    }

pub returns : goal.returns
returns c =
    let a = c.args.arrivals.now in
    let m = many a in
    let q = c.requires in
    let e : length a.numbers.now ≤ c.loop-i.i = omega (arith, c.loop-i-test.false, c.len-i-end.ensures) in (
      fill_done (flags (pieces a)) c.args.flagged.now c.loop-i.i (omega (arith, m)) c.loop-i.invariant.flagged
          ∙ over-all (flags (pieces a)) c.args.flagged.now (omega (arith, m, q.2)),
      fill_done (usable (pieces a)) c.args.used.now c.loop-i.i (omega (arith, m)) c.loop-i.invariant.used
          ∙ over-all (usable (pieces a)) c.args.used.now (omega (arith, m, q.3)),
    )
