-- The parts that the code writes make the state of the definitions: in each case noted, the definition's state has these very parts, with
-- the values that the callees wrote. After an in-order arrival the jump size says whether it is a jump: if it is 0 the places stay. If
-- not, each array is pushed: its first values are those of the kept jumps (`values-kept`), so after the push it has the values of the
-- jumps kept then (`pushed-over`), as `laid` says.
-- Here s are the stream's numbers before and g after, with a prime the arrays after, v is the case noted, h the state of the jumps, ks
-- are the kept jumps, p the new one, f a value of a jump, xs the array of these values, room whether there is room for p. Assumes
-- nothing.
use Prim.Native.Nat.{ℕ, zero, suc, ◌+◌, ◌-◌, ◌≤◌, ◌<◌}
use mathlib.Core.Bool.{Bool, true, false, cond}
use mathlib.Core.List.{List, [], ◌∷◌, ◌++◌, map, map-append}
use mathlib.Core.Logic.{◌⊎◌, inl, inr}
use mathlib.Core.Path.{◌≡◌, refl, sym, ap, ap₂, ◌∙◌}
use native.Mathlib.Omega.{arith}
use borrow.Author.Tests.{ne_eqb, ltb-true, ltb-false}
use lib.Dec.{eqb, ltb}
use lib.ListN.{length, get_or, take, drop, length-append, length-drop}
use lib.Seq.{length-take-le, drop-cons, append_snoc, set_split}
use Rattle.octets.specs.Memory.{over}
use Rattle.rfc4737.specs.Order.{FirstArrival, next_after}
use Rattle.rfc4737.specs.Runs.{lengthened}
use Rattle.rfc4737.specs.Times.{next_reference}
use Rattle.rfc4737.proofs.Lists.{drop-map}
use Rattle.receiver.specs.declared.Stream.{Stream}
use Rattle.receiver.specs.declared.Places.{Places}
use Rattle.receiver.specs.declared.Receiver.{Receiver}
use Rattle.receiver.specs.Limits.{window_places}
use Rattle.receiver.specs.declared.Lateness.{Lateness}
use Rattle.receiver.specs.declared.ReceiverAnswer.{ReceiverAnswer}
use Rattle.receiver.specs.declared.ReceiverAnswer.TheVariants.{Duplicate, InOrder, Exact, Beyond}
use Rattle.receiver.specs.Marks.{with_mark}
use Rattle.receiver.specs.Kept.{place_at, places_from, Held, held_of, kept_of, kept_with, laid, with_jump, held_after}
use Rattle.receiver.specs.Step.{placed_at, duplicate_stream, in_order_stream, reordered_stream, in_order_state, reordered_state, noted_state}
use Rattle.receiver.specs.Private.{Full, pushed, counted_in_order}
use Rattle.receiver.proofs.HeldJumps.{length-places}

-- ---- the numbers

-- how many jumps are kept after a new one
kept-length : (room : Bool) (ks : List FirstArrival) (p : FirstArrival) → (room ≡ false → 1 ≤ length ks)
    → length (kept_with room ks p) ≡ cond room (length ks + 1) (length ks)
unfolding kept_with
kept-length true ks p h = length-append ks (p ∷ [])
kept-length false ks p h =
    let n : 1 ≤ length ks = h refl in
    let a : length (drop 1 ks) ≡ length ks - 1 = length-drop 1 ks in
    let b : length (drop 1 ks ++ (p ∷ [])) ≡ length (drop 1 ks) + 1 = length-append (drop 1 ks) (p ∷ []) in
    omega arith

-- ---- the places

-- the values f of the kept jumps are the first of their array xs
values-from : (f : FirstArrival → ℕ) (xs : List ℕ) (l : Places) → ((at : ℕ) → f (place_at l at) ≡ get_or xs at 0)
    → (at n : ℕ) → at + n ≤ length xs → map f (places_from l at n) ≡ take n (drop at xs)
unfolding places_from
values-from f xs l e at zero h = refl
values-from f xs l e at (suc n) h =
    ap₂ {C = List ℕ} ◌∷◌ (e at) (values-from f xs l e (suc at) n (omega arith))
    ∙ ap (take (suc n)) (sym (drop-cons xs at 0 (omega arith)))

values-kept : (f : FirstArrival → ℕ) (xs : List ℕ) (h : Held) → ((at : ℕ) → f (place_at h.places at) ≡ get_or xs at 0)
    → h.kept ≤ length xs → map f (kept_of h) ≡ take h.kept xs
unfolding kept_of
values-kept f xs h e le = values-from f xs h.places e 0 h.kept (omega arith)

-- values ys and a new one after them, at the start of xs
over-snoc : (ys xs : List ℕ) (v n : ℕ) → length ys + 1 ≡ n → over (ys ++ (v ∷ [])) xs ≡ ys ++ (v ∷ drop n xs)
over-snoc ys xs v n e =
    let k : length (ys ++ (v ∷ [])) ≡ n = length-append ys (v ∷ []) ∙ e in
    ap (λ (m : ℕ). (ys ++ (v ∷ [])) ++ drop m xs) k ∙ append_snoc ys v (drop n xs)

-- pushed, an array holds the values of the jumps kept then
pushed-over : (f : FirstArrival → ℕ) (xs : List ℕ) (ks : List FirstArrival) (p : FirstArrival) (n : ℕ) (room : Bool) → map f ks ≡ take n xs
    → n ≤ length xs → (room ≡ true → n < length xs) → (room ≡ false → 1 ≤ n)
    → pushed room n xs (f p) ≡ over (map f (kept_with room ks p)) xs
unfolding pushed kept_with
pushed-over f xs ks p n true e le a b =
    let lt : n < length xs = a refl in
    let m : length (take n xs) ≡ n = length-take-le n xs le in
    let t : map f (ks ++ (p ∷ [])) ≡ take n xs ++ (f p ∷ []) = map-append f ks (p ∷ []) ∙ ap (λ (l : List ℕ). l ++ (f p ∷ [])) e in
    let l : length (take n xs) + 1 ≡ suc n = omega arith in
    set_split xs n (f p) lt ∙ sym (over-snoc (take n xs) xs (f p) (suc n) l) ∙ ap (λ (l : List ℕ). over l xs) (sym t)
pushed-over f xs ks p n false e le a b =
    let ge : 1 ≤ n = b refl in
    let m : length (take n xs) ≡ n = length-take-le n xs le in
    let d : length (drop 1 (take n xs)) ≡ length (take n xs) - 1 = length-drop 1 (take n xs) in
    let t : map f (drop 1 ks ++ (p ∷ [])) ≡ drop 1 (take n xs) ++ (f p ∷ []) =
    map-append f (drop 1 ks) (p ∷ []) ∙ ap (λ (l : List ℕ). l ++ (f p ∷ [])) (sym (drop-map f 1 ks) ∙ ap (λ (l : List ℕ). drop 1 l) e) in
    let l : length (drop 1 (take n xs)) + 1 ≡ n = omega arith in
    sym (over-snoc (drop 1 (take n xs)) xs (f p) n l) ∙ ap (λ (l : List ℕ). over l xs) (sym t)

-- the state of the jumps with a new one p, from the parts that the code writes
module _ (room : Bool) (h : Held) (p : FirstArrival) (few : h.kept ≤ window_places)
    (full : Full h.places.positions h.places.numbers h.places.times)
    (free : room ≡ true → h.kept < window_places) (one : room ≡ false → 1 ≤ h.kept) where
  kept-many : length (kept_of h) ≡ h.kept
  unfolding kept_of
  kept-many = length-places h.places 0 h.kept

  counted : length (kept_with room (kept_of h) p) ≡ cond room (h.kept + 1) h.kept
  counted =
      kept-length room (kept_of h) p (λ e. rw kept-many (one e))
      ∙ ap (λ (n : ℕ). cond room (n + 1) n) kept-many

  laid-values : (f : FirstArrival → ℕ) (xs : List ℕ) → length xs ≡ window_places → ((at : ℕ) → f (place_at h.places at) ≡ get_or xs at 0)
      → pushed room h.kept xs (f p) ≡ over (map f (kept_with room (kept_of h) p)) xs
  laid-values f xs l read =
      let le : h.kept ≤ length xs = rw l few in
      pushed-over f xs (kept_of h) p h.kept room (values-kept f xs h read le) le (λ e. rw l (free e)) one

  pub jump-kept : (dropped : ℕ) (after : Places) → dropped ≡ cond room h.dropped (place_at h.places 0).number
      → after ≡ record {
        positions = pushed room h.kept h.places.positions p.position;
        numbers = pushed room h.kept h.places.numbers p.number;
        times = pushed room h.kept h.places.times p.time;
      }
      → ◌≡◌ {A = Held} (record { kept = cond room (h.kept + 1) h.kept; dropped = dropped; places = after }) (with_jump room h p)
  unfolding with_jump laid place_at
  jump-kept dropped after d e =
      rw (
        e,
        d,
        counted,
        laid-values (λ (q : FirstArrival). q.position) h.places.positions full.0 (λ at. refl),
        laid-values (λ (q : FirstArrival). q.number) h.places.numbers full.1.0 (λ at. refl),
        laid-values (λ (q : FirstArrival). q.time) h.places.times full.1.1 (λ at. refl),
      )

-- ---- the state

module _ (r : Receiver) (room : Bool) (number time : ℕ) where
  -- after a duplicate
  pub duplicate-written : (g : Stream) → g ≡ duplicate_stream r.stream time
      → ◌≡◌ {A = Receiver} (record { stream = g; marks = r.marks; places = r.places }) (noted_state room r number time Duplicate)
  unfolding noted_state
  duplicate-written g e = rw e

  -- after a reordered packet, exact or beyond the window
  pub late-written : (v : ReceiverAnswer) (g : Stream) (marks' : List ℕ)
      → ((l : Lateness) × (v ≡ Exact l)) ⊎ ((l : Lateness) × (v ≡ Beyond l))
      → g ≡ reordered_stream r.stream number time → marks' ≡ with_mark r.marks number
      → ◌≡◌ {A = Receiver} (record { stream = g; marks = marks'; places = r.places }) (noted_state room r number time v)
  unfolding noted_state
  late-written v g marks' (inl l) e m = rw (l.1, e, m)
  late-written v g marks' (inr l) e m = rw (l.1, e, m)

  module _ (size : ℕ) (marks' : List ℕ) (g : Stream) (m : marks' ≡ with_mark r.marks number) (e : g ≡ counted_in_order r.stream number time)
    where
      -- after an in-order arrival that is no jump
      pub in-order-written : size ≡ 0
          → ◌≡◌ {A = Receiver} (record { stream = g; marks = marks'; places = r.places }) (noted_state room r number time (InOrder size))
      unfolding noted_state in_order_state in_order_stream held_after
      in-order-written z = rw (e, m, z)

      -- after one that is: the jump is kept with the numbers g, and k are the numbers then
      pub jump-written : (k : Stream) (after : Places) → (size ≡ 0 → ⊥)
          → held_of k after ≡ with_jump room (held_of r.stream r.places) (placed_at r.stream number time)
          → k ≡ record g { kept = k.kept; dropped = k.dropped }
          → ◌≡◌ {A = Receiver} (record { stream = k; marks = marks'; places = after }) (noted_state room r number time (InOrder size))
      unfolding noted_state in_order_state in_order_stream held_after
      jump-written k after z h w =
          ap (λ (s : Stream). record { stream = s; marks = marks'; places = after })
          (w ∙ ap (λ (s : Stream). record s { kept = k.kept; dropped = k.dropped }) e)
          ∙ rw (m, ne_eqb size 0 z, ← h)
