-- The fit test and the records of what it says are the same: a test that holds gives the record, as `every_true` takes off one of its
-- conditions after the other; a record the test, as `both` puts them together; and where the record cannot be the test is false, since it
-- would give the record (`fails`). s are the numbers of a stream, p is a kept jump. Assumes nothing.
use Prim.Native.Nat.{ℕ, ◌+◌, ◌≤◌}
use mathlib.Core.Bool.{Bool, true, false, ◌&&◌}
use mathlib.Core.List.{List, ◌∷◌}
use mathlib.Core.Path.{◌≡◌, refl}
use lib.Dec.{leb}
use borrow.Author.Tests.{leb-true, le-leb}
use Rattle.rfc4737.specs.Order.{FirstArrival}
use Rattle.rfc4737.specs.Refusals.{within}
use Rattle.receiver.specs.declared.Stream.{Stream}
use Rattle.receiver.specs.declared.Places.{Places}
use Rattle.rfc4737.specs.Judge.{sent_most}
use Rattle.receiver.specs.Fit.{every, stream_fit, jump_fit, places_fit}
use Rattle.receiver.specs.Private.{StreamFit, JumpFit, PlacesFit}

-- two tests that hold
pub both : {a b : Bool} → a ≡ true → b ≡ true → (a && b) ≡ true
both {a} {b} e f = rw (e, f)

-- a test that would give what cannot be fails
fails : {P : Type 0} (t : Bool) → (t ≡ true → P) → (P → ⊥) → false ≡ t
fails true f h = absurd (h (f refl))
fails false f h = refl

-- both parts of a test that holds
pub and-true : (a b : Bool) → a && b ≡ true → (a ≡ true) × (b ≡ true)
and-true true b e = (refl, e)
and-true false b e = (e, cc)

-- the first of tests that hold, and the others
pub every_true : (b : Bool) (bs : List Bool) → every (b ∷ bs) ≡ true → (b ≡ true) × (every bs ≡ true)
unfolding every
every_true b bs e = and-true b (every bs) e

-- the two sides of a number that lies between
pub within-true : (low high x : ℕ) → within low high x ≡ true → (low ≤ x) × (x ≤ high)
within-true low high x e =
    let h : (leb low x ≡ true) × (leb x high ≡ true) = and-true (leb low x) (leb x high) e in
    (leb-true low x h.0, leb-true x high h.1)

module _ (s : Stream) where
  -- numbers that pass the test
  pub stream-facts : stream_fit s ≡ true → StreamFit s
  unfolding stream_fit
  stream-facts e =
      let a = every_true _ _ e in
      let b = every_true _ _ a.1 in
      let d = every_true _ _ b.1 in
      let f = every_true _ _ d.1 in
      let g = every_true _ _ f.1 in
      let h = every_true _ _ g.1 in
      let i = every_true _ _ h.1 in
      let j = every_true _ _ i.1 in
      let k = within-true 1 sent_most s.sent a.0 in
      let n = within-true 1 (s.sent + 1) s.next j.0 in
      record {
        sent-low = k.0;
        sent-high = k.1;
        arrived-high = leb-true _ _ b.0;
        accepted-high = leb-true _ _ d.0;
        inorder-high = leb-true _ _ f.0;
        current-high = leb-true _ _ g.0;
        closed-high = leb-true _ _ h.0;
        squares-high = leb-true _ _ i.0;
        next_low = n.0;
        next-high = n.1;
      }

  -- fit numbers pass the test
  pub stream-pass : StreamFit s → stream_fit s ≡ true
  unfolding stream_fit every
  stream-pass f =
      both (both (le-leb _ _ f.sent-low) (le-leb _ _ f.sent-high))
      (both (le-leb _ _ f.arrived-high)
      (both (le-leb _ _ f.accepted-high)
      (both (le-leb _ _ f.inorder-high)
      (both (le-leb _ _ f.current-high)
      (both (le-leb _ _ f.closed-high)
      (both (le-leb _ _ f.squares-high) (both (both (le-leb _ _ f.next_low) (le-leb _ _ f.next-high)) refl)))))))

  -- what says whether numbers are fit is the test
  pub stream-decides : (b : Bool) → (b ≡ true → StreamFit s) → (StreamFit s → b ≡ true) → b ≡ stream_fit s
  stream-decides true f g = rw (stream-pass (f refl))
  stream-decides false f g = fails (stream_fit s) stream-facts (λ h. let e : false ≡ true = g h in cc)

  -- numbers that are not fit fail the test
  pub stream-false : (StreamFit s → ⊥) → false ≡ stream_fit s
  stream-false h = fails (stream_fit s) stream-facts h

module _ (s : Stream) (p : FirstArrival) where
  -- what a fit jump says
  pub jump-facts : jump_fit s p ≡ true → JumpFit s p
  unfolding jump_fit
  jump-facts e =
      let a = every_true _ _ e in
      let b = every_true _ _ a.1 in
      let d = every_true _ _ b.1 in
      let k = within-true 1 s.arrived p.position a.0 in
      let n = within-true 1 s.sent p.number b.0 in
      record {
        position-low = k.0;
        position-high = k.1;
        number-low = n.0;
        number-high = n.1;
        time-high = leb-true _ _ d.0;
      }

  -- a fit kept jump passes the test
  pub jump_passes : JumpFit s p → jump_fit s p ≡ true
  unfolding jump_fit every
  jump_passes f =
      both (both (le-leb _ _ f.position-low) (le-leb _ _ f.position-high))
      (both (both (le-leb _ _ f.number-low) (le-leb _ _ f.number-high)) (both (le-leb _ _ f.time-high) refl))

module _ (s : Stream) (places : Places) where
  -- what fit places say
  pub places-facts : places_fit s places ≡ true → PlacesFit s places
  unfolding places_fit
  places-facts e =
      let a = every_true _ _ e in
      let b = every_true _ _ a.1 in
      let d = every_true _ _ b.1 in
      record { kept_high = leb-true _ _ a.0; jumps-fit = b.0; dropped-high = leb-true _ _ d.0 }

  -- fit places pass the test
  pub places-pass : PlacesFit s places → places_fit s places ≡ true
  unfolding places_fit every
  places-pass f = both (le-leb _ _ f.kept_high) (both f.jumps-fit (both (le-leb _ _ f.dropped-high) refl))

  -- places that are not fit fail the test
  pub places-false : (PlacesFit s places → ⊥) → false ≡ places_fit s places
  places-false h = fails (places_fit s places) places-facts h
