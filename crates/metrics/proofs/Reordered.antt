-- Figures of a reordered packet over the numbers of the first arrivals before it. Ranges of indices whose numbers are above s are joined,
-- and grow back by one (`above_join`, `above-back`). The byte offset is a sum over the positions: the next one adds its size if its
-- number is greater (`offset-greater`), else nothing (`offset-same`). The largest n grows by 1 at a greater number and is 0 after any
-- other, so it counts the positions behind the last that is not greater (`largest-back`, by induction over these positions). Last, the
-- index of a discontinuity (`found`), by induction over the first arrivals: a discontinuity stays; while there is none the byte offset is
-- 0, and an arrival of a greater number is the discontinuity.
-- Here numbers is the table of the numbers of the first arrivals fs, count their number, s the packet's, p the number of positions
-- passed, n the number at the next one, and from an index up to which the byte offset is 0. Assumes nothing.
use mathlib.Core.Path.{◌≡◌, refl, sym, ap, ap₂, ◌∙◌}
use mathlib.Core.Bool.{Bool, true, false, cond}
use mathlib.Core.List.{List, [], ◌∷◌, ◌++◌}
use mathlib.Core.Option.{Option, none, some, some-ne-none}
use Prim.Native.Nat.{ℕ, zero, suc, ◌+◌, ◌-◌, ◌≤◌, ◌<◌}
use native.Mathlib.Numerals.{add-one}
use native.Mathlib.Omega.{arith}
use lib.Dec.{ltb}
use lib.ListN.{length, take, get_or, length-append, get_or-append}
use lib.Seq.{take_all, take-append-le, take-append_seam, get_or-append_seam}
use borrow.Author.Tests.{lt-ltb, le-ltb, ltb-true, ltb-false}
use Rattle.rfc4737.specs.declared.Arrival.{Arrival}
use Rattle.rfc4737.specs.Order.{FirstArrival, placed, place_after}
use Rattle.rfc4737.specs.Extent.{first_above, discontinuity, byte_offset, largest_n}
use Rattle.rfc4737.specs.Arrivals.{each, each_after}
use Rattle.rfc4737.proofs.Lists.{snoc-ind}
use Rattle.rfc4737.proofs.Arrivals.{fold-take}
use Rattle.rfc4737.proofs.Folds.{offset-more}
use Rattle.rfc4737.proofs.Jumps.{placed-more, first_above-append, or_else}
use Rattle.sample.specs.Places.{no_arrival}
use Rattle.metrics.specs.Private.Tables.{NumberTable, Above}

-- ---- numbers above a packet's, over a range of indices

module _ (numbers : List ℕ) (s : ℕ) where
  -- over no index
  pub above-none : {low high : ℕ} → low ≡ high → Above numbers s low high
  above-none e = record { order = omega arith; at = λ p a b. absurd (omega arith) }

  -- at one place
  above-one : (p : ℕ) → s < get_or numbers p 0 → Above numbers s p (p + 1)
  above-one p g = record { order = omega arith; at = λ q a b. let e : p ≡ q = omega arith in rw e at g }

  -- to a place, and from there on
  pub above_join : {low mid high : ℕ} → Above numbers s low mid → Above numbers s mid high → Above numbers s low high
  above_join {low} {mid} {high} f g = record { order = omega arith; at = λ p a b. side p a b (ltb p mid) refl }
    where
      side : (p : ℕ) → low ≤ p → p < high → (t : Bool) → ltb p mid ≡ t → s < get_or numbers p 0
      side p a b true q = f.at p a (ltb-true p mid q)
      side p a b false q = g.at p (ltb-false p mid q) b

  -- at one place more before a place
  pub above-back : {p high : ℕ} → 1 ≤ p → s < get_or numbers (p - 1) 0 → Above numbers s p high → Above numbers s (p - 1) high
  above-back {p} low g f =
      let e : p - 1 + 1 ≡ p = omega arith in
      above_join (rw e at (above-one (p - 1) g)) f

-- ---- over the numbers of a table

module _ (numbers : List ℕ) (count s : ℕ) where
  -- a sum is the byte offset over the first p positions, given that it is 0 over the first `from`
  abbrev pub OffsetTo : (ℕ → ℕ) → ℕ → ℕ → ℕ → Type 0
  OffsetTo size from p sum =
      (fs : List Arrival) → NumberTable fs numbers count → byte_offset size (take from fs) s ≡ 0 → sum ≡ byte_offset size (take p fs) s

  -- the largest n is that over the first p positions, and one for each position after them
  abbrev LargestFrom : ℕ → Type 0
  LargestFrom p = (fs : List Arrival) → NumberTable fs numbers count → largest_n fs s ≡ largest_n (take p fs) s + (count - p)

  module _ (p n : ℕ) (inside : p < count) (is : n ≡ get_or numbers p 0) where
    -- the number at position p + 1
    at : (fs : List Arrival) → NumberTable fs numbers count → (get_or fs p no_arrival).number ≡ n
    at fs h = sym (is ∙ h.at p (omega (arith, h.all)))

    -- after the next position, of a greater number
    pub offset-greater : (size : ℕ → ℕ) (from sum k : ℕ) → s < n → k ≡ size n → OffsetTo size from p sum
        → OffsetTo size from (p + 1) (sum + k)
    unfolding byte_offset
    offset-greater size from sum k g e o fs h none_before =
        ap₂ (λ (a b : ℕ). a + b) (o fs h none_before) e
        ∙ sym (fold-take _ 0 no_arrival fs p (omega (arith, h.all)) ∙ rw (at fs h, lt-ltb s n g))

    -- of a number that is not greater
    pub offset-same : (size : ℕ → ℕ) (from sum : ℕ) → n ≤ s → OffsetTo size from p sum → OffsetTo size from (p + 1) sum
    unfolding byte_offset
    offset-same size from sum g o fs h none_before =
        o fs h none_before
        ∙ sym (fold-take _ 0 no_arrival fs p (omega (arith, h.all)) ∙ rw (at fs h, le-ltb s n g) (omega arith))

    -- where the number at position p + 1 is greater it is counted too
    largest-one-greater : s < n → LargestFrom (p + 1) → LargestFrom p
    unfolding largest_n
    largest-one-greater g o fs h =
        let e : largest_n (take (p + 1) fs) s ≡ largest_n (take p fs) s + 1 =
        fold-take _ 0 no_arrival fs p (omega (arith, h.all)) ∙ rw (at fs h, lt-ltb s n g) in
        omega (arith, o fs h)

    -- and where it is not the count ends there
    largest-one-none : n ≤ s → LargestFrom (p + 1) → (fs : List Arrival) → NumberTable fs numbers count → count - (p + 1) ≡ largest_n fs s
    unfolding largest_n
    largest-one-none g o fs h =
        let e : largest_n (take (p + 1) fs) s ≡ 0 =
        fold-take _ 0 no_arrival fs p (omega (arith, h.all)) ∙ rw (at fs h, le-ltb s n g) in
        omega (arith, o fs h)

  -- the byte offset over all positions
  pub offset-all : (size : ℕ → ℕ) (from p sum : ℕ) → count ≤ p → OffsetTo size from p sum
      → (fs : List Arrival) → NumberTable fs numbers count → byte_offset size (take from fs) s ≡ 0 → sum ≡ byte_offset size fs s
  offset-all size from p sum g o fs h none_before =
      o fs h none_before ∙ ap (λ (l : List Arrival). byte_offset size l s) (take_all p fs (omega (arith, h.all)))

  -- the largest n, where the numbers at n positions after the first p, up to the last, are all greater
  largest-above : (n p : ℕ) → n + p ≡ count → Above numbers s p count → LargestFrom p
  largest-above zero p e g = λ fs h. rw (take_all p fs (omega (arith, h.all))) (omega arith)
  largest-above (suc n) p e g =
      largest-one-greater p _ (omega arith) refl (g.at p (omega arith) (omega arith))
      (largest-above n (p + 1) (omega arith) (record { order = omega arith; at = λ k a b. g.at k (omega arith) b }))

  -- the largest n counts the positions whose numbers are all greater, back to one whose number is not, or to the first
  pub largest-back : (p : ℕ) → Above numbers s p count → (0 < p → get_or numbers (p - 1) 0 ≤ s)
      → (fs : List Arrival) → NumberTable fs numbers count → count - p ≡ largest_n fs s
  unfolding largest_n
  largest-back zero g stop = λ fs h. omega (arith, largest-above count 0 (omega arith) g fs h)
  largest-back (suc p) g stop =
      let e : suc p - 1 ≡ p = omega arith in
      let o = largest-above (count - suc p) (suc p) (omega arith) g in
      rw add-one at (largest-one-none p _ (omega arith) refl (rw e at (stop (omega arith))) (rw add-one o))

-- ---- where a discontinuity stands

-- the discontinuity p of a packet s among first arrivals: it is one of them, and over those before it the byte offset is 0
pub record FoundDiscontinuity (size : ℕ → ℕ) (fs : List Arrival) (s : ℕ) (p : FirstArrival) : Type 0 where
  pub low : 1 ≤ p.position
  pub high : p.position ≤ length fs
  pub time : (get_or fs (p.position - 1) no_arrival).time ≡ p.time
  pub alone : byte_offset size (take (p.position - 1) fs) s ≡ 0

-- nothing is above s where no discontinuity is found, and what is found is such
record Searched (size : ℕ → ℕ) (fs : List Arrival) (s : ℕ) : Type 0 where
  none_above : discontinuity fs s ≡ none → byte_offset size fs s ≡ 0
  some-found : (p : FirstArrival) → discontinuity fs s ≡ some p → FoundDiscontinuity size fs s p

-- the same after the next first arrival
searched-more : (size : ℕ → ℕ) (s : ℕ) (fs : List Arrival) (a : Arrival) → Searched size fs s → Searched size (fs ++ (a ∷ [])) s
unfolding discontinuity first_above
searched-more size s fs a h = go (discontinuity fs s) refl (ltb s a.number) refl
  where
    both : discontinuity (fs ++ (a ∷ [])) s ≡ or_else (discontinuity fs s) (cond (ltb s a.number) (some (place_after fs a)) none)
    both = rw (placed-more, first_above-append)

    earlier : (p : FirstArrival) → FoundDiscontinuity size fs s p → FoundDiscontinuity size (fs ++ (a ∷ [])) s p
    earlier p k =
        record {
          low = k.low;
          high = omega (arith, k.high, length-append fs (a ∷ []));
          time = rw (get_or-append fs (a ∷ []) no_arrival (p.position - 1) (omega (arith, k.low, k.high))) k.time;
          alone = rw (take-append-le (p.position - 1) fs (a ∷ []) (omega (arith, k.high))) k.alone;
        }

    last : length fs + 1 - 1 ≡ length fs
    last = omega arith

    own : byte_offset size fs s ≡ 0 → FoundDiscontinuity size (fs ++ (a ∷ [])) s (place_after fs a)
    own e =
        record {
          low = omega arith;
          high = omega (arith, length-append fs (a ∷ []));
          time = rw last (ap (λ (b : Arrival). b.time) (get_or-append_seam fs a [] no_arrival));
          alone = rw (last, take-append_seam fs (a ∷ [])) e;
        }

    only : (p : FirstArrival) → discontinuity (fs ++ (a ∷ [])) s ≡ some p → FoundDiscontinuity size (fs ++ (a ∷ [])) s p
        → Searched size (fs ++ (a ∷ [])) s
    only p e k =
        record {
          none_above = λ n. absurd (some-ne-none p (sym e ∙ n));
          some-found = λ r w. let same : p ≡ r = cc in rw same at k;
        }

    go : (o : Option FirstArrival) → discontinuity fs s ≡ o → (t : Bool) → ltb s a.number ≡ t → Searched size (fs ++ (a ∷ [])) s
    go (some p) e t q = only p (rw e at both) (earlier p (h.some-found p e))
    go none e true q = only (place_after fs a) (rw (e, q) at both) (own (h.none_above e))
    go none e false q =
        let still : discontinuity (fs ++ (a ∷ [])) s ≡ none = rw (e, q) at both in
        record {
          none_above = λ n. offset-more size fs s a ∙ rw q (omega (arith, h.none_above e));
          some-found = λ r w. absurd (some-ne-none r (sym w ∙ still));
        }

-- every discontinuity is such
pub found : (size : ℕ → ℕ) (s : ℕ) (fs : List Arrival) (p : FirstArrival) → discontinuity fs s ≡ some p → FoundDiscontinuity size fs s p
unfolding discontinuity placed first_above byte_offset each each_after
found size s fs =
    (snoc-ind (λ (fs : List Arrival). Searched size fs s) (searched-more size s)
    (record { none_above = λ e. refl; some-found = λ p e. absurd (some-ne-none p (sym e)) }) fs).some-found
