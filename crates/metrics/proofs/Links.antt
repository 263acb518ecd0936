-- Links: at the packet of each first arrival, link + more == largest n + 1. In the engine's table `more` is 1, so the link is the largest
-- n itself; in that of the shares `more` is 0. The first arrivals that a largest n counts have greater numbers (`largest-over`, by
-- induction over the first arrivals). So if a first arrival's number is above s, so are those that its link passes over (`above-link`).
-- The next first arrival leaves the others' links, since its packet is another, and its own is written at its packet (`linked-set`). From
-- NextExp on the largest n is 0 (`largest-next`), as are the entries there; so if `more` is 1 nothing is written for a packet in order
-- (`linked-in-order`).
-- Here fs are the first arrivals, a the next one, s a packet's number, p an index among them, n the number there and k its link. Assumes
-- nothing.
use mathlib.Core.Path.{◌≡◌, refl, sym, ap, ◌∙◌}
use mathlib.Core.Bool.{Bool, true, false, cond, true≢false}
use mathlib.Core.List.{List, [], ◌∷◌, ◌++◌}
use Prim.Native.Nat.{ℕ, ◌+◌, ◌-◌, ◌≤◌, ◌<◌}
use native.Mathlib.Omega.{arith}
use lib.Dec.{eqb, leb, ltb}
use lib.ListN.{length, take, get_or, set, replicate, length-append, get_or-append}
use lib.Seq.{get_or-set_same, get_or-set_other, get_or-take, take-append-le, take-append_seam, get_or-append_seam, length-take-le}
use borrow.Author.Tests.{eqb-true, eqb-false, ltb-true, le-ltb, leb-false, le-leb}
use Rattle.rfc4737.specs.declared.Arrival.{Arrival}
use Rattle.rfc4737.specs.Arrivals.{has, firsts}
use Rattle.rfc4737.specs.Order.{next_after, next_exp}
use Rattle.rfc4737.specs.Extent.{largest_n}
use Rattle.rfc4737.proofs.Lists.{snoc-ind, zeros}
use Rattle.rfc4737.proofs.Folds.{next_more, largest-more, largest-le}
use Rattle.rfc4737.proofs.Jumps.{next_after-above}
use Rattle.rfc4737.specs.Judge.{sent_most}
use Rattle.sample.specs.Decode.{Decoded}
use Rattle.sample.specs.Places.{no_arrival}
use Rattle.metrics.specs.Records.{before, number_places}
use Rattle.metrics.specs.Private.Tables.{Filled, NumberTable, Above, Links, LinkTable}
use Rattle.metrics.proofs.Records.{has-at}
use Rattle.metrics.proofs.Reordered.{above-back, above_join}
use Rattle.metrics.proofs.CountsBySeen.{has-below}

-- ---- what a link passes over

-- the numbers that the largest n counts are greater
largest-over : (s : ℕ) (fs : List Arrival) (p : ℕ) → length fs - largest_n fs s ≤ p → p < length fs → s < (get_or fs p no_arrival).number
largest-over s = snoc-ind Over more (λ p a b. absurd (omega arith))
  where
    Over : List Arrival → Type 0
    Over fs = (p : ℕ) → length fs - largest_n fs s ≤ p → p < length fs → s < (get_or fs p no_arrival).number

    more : (fs : List Arrival) (a : Arrival) → Over fs → Over (fs ++ (a ∷ []))
    more fs a h p low high = go (ltb s a.number) refl (eqb p (length fs)) refl
      where
        go : (t : Bool) → ltb s a.number ≡ t → (u : Bool) → eqb p (length fs) ≡ u → s < (get_or (fs ++ (a ∷ [])) p no_arrival).number
        go true e true f = rw (eqb-true p (length fs) f, get_or-append_seam fs a [] no_arrival) (ltb-true s a.number e)
        go true e false f =
            let n : largest_n (fs ++ (a ∷ [])) s ≡ largest_n fs s + 1 = largest-more fs s a ∙ rw e in
            let inside : p < length fs = omega (arith, length-append fs (a ∷ []), eqb-false p (length fs) f) in
            rw (get_or-append fs (a ∷ []) no_arrival p inside) (h p (omega (arith, length-append fs (a ∷ []))) inside)
        go false e u f =
            let n : largest_n (fs ++ (a ∷ [])) s ≡ 0 = largest-more fs s a ∙ rw e in
            absurd (omega arith)

module _ (more : ℕ) where
  -- a table of the largest n links each first arrival to the nearest before it whose number is not greater
  pub linked-links : (fs : List Arrival) (numbers links : List ℕ) (count : ℕ) → NumberTable fs numbers count
      → ((p : ℕ) → p < count → get_or numbers p 0 ≤ sent_most)
      → LinkTable more fs links → Links more numbers links count
  linked-links fs numbers links count n packets l = record { packet = packets; inside = inside; at = over }
    where
      link : (p : ℕ) → p < count → more + get_or links (get_or numbers p 0) 0 ≡ largest_n (take p fs) (get_or fs p no_arrival).number + 1
      link p h = ap (λ (s : ℕ). more + get_or links s 0) (n.at p (omega (arith, n.all))) ∙ l.at p (omega (arith, n.all))

      inside : (p : ℕ) → p < count → (1 ≤ more + get_or links (get_or numbers p 0) 0) × (more + get_or links (get_or numbers p 0) 0 ≤ p + 1)
      inside p h =
          omega (arith, link p h, largest-le (take p fs) (get_or fs p no_arrival).number, length-take-le p fs (omega (arith, n.all)))

      over : (p : ℕ) → p < count → Above numbers (get_or numbers p 0) (p + 1 - more - get_or links (get_or numbers p 0) 0) p
      over p h =
          let here : p < length fs = omega (arith, n.all) in
          let taken : length (take p fs) ≡ p = length-take-le p fs (omega arith) in
          let back : p + 1 - more - get_or links (get_or numbers p 0) 0 ≡ p - largest_n (take p fs) (get_or fs p no_arrival).number =
          omega (arith, link p h) in
          rw (back, n.at p here)
          (record {
            order = omega arith;
            at = λ q a b.
                rw (n.at q (omega arith), ← get_or-take p fs q no_arrival b)
                (largest-over (get_or fs p no_arrival).number (take p fs) q (omega (arith, taken)) (omega (arith, taken)));
          })

  -- where the numbers from p on are above s, and so is the one before them, those that its link passes over are above s too
  pub above-link : (numbers links : List ℕ) (s count p n k : ℕ) → Links more numbers links count → 1 ≤ p → s < n
      → n ≡ get_or numbers (p - 1) 0 → k ≡ get_or links n 0
      → Above numbers s p count → Above numbers s (p - more - k) count
  above-link numbers links s count p n k l low g e f a =
      let same : k ≡ get_or links (get_or numbers (p - 1) 0) 0 = f ∙ ap (λ (m : ℕ). get_or links m 0) e in
      let back : p - 1 + 1 ≡ p = omega arith in
      let linked : Above numbers (get_or numbers (p - 1) 0) (p - more - k) (p - 1) =
      rw (back, ← same) at (l.at (p - 1) (omega (arith, a.order))) in
      above_join numbers s (record { order = linked.order; at = λ q b c. omega (arith, linked.at q b c) })
      (above-back numbers s low (rw e at g) a)

-- ---- the next first arrival

-- none directly before a packet from NextExp on has a greater number
pub largest-next : (s : ℕ) (fs : List Arrival) → next_exp fs ≤ s → largest_n fs s ≡ 0
unfolding largest_n next_exp next_after
largest-next s = snoc-ind (λ (fs : List Arrival). next_exp fs ≤ s → largest_n fs s ≡ 0) more (λ h. refl)
  where
    more : (fs : List Arrival) (a : Arrival) → (next_exp fs ≤ s → largest_n fs s ≡ 0) → next_exp (fs ++ (a ∷ [])) ≤ s
        → largest_n (fs ++ (a ∷ [])) s ≡ 0
    more fs a h g = go (leb (next_exp fs) a.number) refl (rw (next_more fs a) at g)
      where
        last : a.number ≤ s → largest_n (fs ++ (a ∷ [])) s ≡ 0
        last low = largest-more fs s a ∙ rw (le-ltb s a.number low)

        go : (t : Bool) → leb (next_exp fs) a.number ≡ t → cond t (a.number + 1) (next_exp fs) ≤ s → largest_n (fs ++ (a ∷ [])) s ≡ 0
        go true e k = last (omega arith)
        go false e k = last (omega (arith, leb-false (next_exp fs) a.number e))

-- no links yet
pub linked-start : (more : ℕ) (d : Decoded) → LinkTable more (firsts (before d 0)) (replicate number_places 0)
unfolding firsts
linked-start more d = record { at = λ p h. absurd (omega arith); ahead = λ s h. zeros number_places s }

module _ (more : ℕ) (fs : List Arrival) (a : Arrival) (new : has a.number fs ≡ false) (links : List ℕ)
    (l : LinkTable more fs links) where
  -- the packet of another first arrival is another
  other-packet : (p : ℕ) → p < length fs → (get_or fs p no_arrival).number ≡ a.number → ⊥
  other-packet p h e = true≢false (sym (has-at no_arrival fs p h) ∙ rw e new)

  -- the links after it: those before it stay, and its own is written at its packet
  linked-more : (links' : List ℕ) → ((p : ℕ) → p < length fs
      → get_or links' (get_or fs p no_arrival).number 0 ≡ get_or links (get_or fs p no_arrival).number 0)
      → more + get_or links' a.number 0 ≡ largest_n fs a.number + 1 → ((s : ℕ) → next_exp (fs ++ (a ∷ [])) ≤ s → get_or links' s 0 ≡ 0)
      → LinkTable more (fs ++ (a ∷ [])) links'
  linked-more links' stay own ahead = record { at = λ p h. go p h (eqb p (length fs)) refl; ahead = ahead }
    where
      go : (p : ℕ) → p < length (fs ++ (a ∷ [])) → (u : Bool) → eqb p (length fs) ≡ u
          → more + get_or links' (get_or (fs ++ (a ∷ [])) p no_arrival).number 0
          ≡ largest_n (take p (fs ++ (a ∷ []))) (get_or (fs ++ (a ∷ [])) p no_arrival).number + 1
      go p h true e = rw (eqb-true p (length fs) e, take-append_seam fs (a ∷ []), get_or-append_seam fs a [] no_arrival) own
      go p h false e =
          let inside : p < length fs = omega (arith, length-append fs (a ∷ []), eqb-false p (length fs) e) in
          rw (take-append-le p fs (a ∷ []) (omega arith), get_or-append fs (a ∷ []) no_arrival p inside)
          (ap (λ (k : ℕ). more + k) (stay p inside) ∙ l.at p inside)

  -- where it is linked by its largest n
  pub linked-set : (link : ℕ) → a.number < length links → more + link ≡ largest_n fs a.number + 1
      → LinkTable more (fs ++ (a ∷ [])) (set links a.number link)
  linked-set link room is =
      let above = next_after-above (next_exp fs) a.number in
      linked-more (set links a.number link)
      (λ p h. get_or-set_other links a.number _ link 0 (other-packet p h))
      (rw (get_or-set_same links a.number link 0 room) is)
      (λ s h. get_or-set_other links a.number s link 0 (λ e. omega (arith, next_more fs a, above))
      ∙ l.ahead s (omega (arith, next_more fs a, above)))

-- where it is in order, and skips the packets from NextExp on, its link is 0
pub linked-in-order : (fs : List Arrival) (a : Arrival) → has a.number fs ≡ false → (links links' : List ℕ) → LinkTable 1 fs links
    → (value : ℕ) → next_exp fs ≤ a.number
    → Filled (next_exp fs) a.number value links links' → LinkTable 1 (fs ++ (a ∷ [])) links'
unfolding next_after
linked-in-order fs a new links links' l value ahead filled =
    let moves : next_exp (fs ++ (a ∷ [])) ≡ a.number + 1 = next_more fs a ∙ rw (le-leb (next_exp fs) a.number ahead) in
    linked-more 1 fs a new links l links'
    (λ p h. filled.below _ (has-below _ fs (has-at no_arrival fs p h)))
    (omega (arith, filled.past a.number (omega arith), l.ahead a.number ahead, largest-next a.number fs ahead))
    (λ s h. filled.past s (omega (arith, moves)) ∙ l.ahead s (omega (arith, moves)))
