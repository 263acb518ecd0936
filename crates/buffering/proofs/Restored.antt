-- `Restores`, for arrivals and for a file. The test `steps_back` gives the order of the times (`steps-ordered`), so the arrivals in time
-- are those of `all-in-time`. The most that is held is held after some of the arrivals, where `never-more` bounds it (`most-held`). It is
-- at least the need of every packet, since with the greatest waiting time each is in time and finds its byte offset held (`held-needed`).
-- Here w is the waiting time, l arrivals, a the next one, k is K, z the size of each packet. Assumes nothing.
use mathlib.Core.Path.{◌≡◌, refl, sym, ap, subst, ◌∙◌}
use mathlib.Core.Bool.{Bool, true, false, not}
use mathlib.Core.List.{List, [], ◌∷◌, ◌++◌, append-nil, append_assoc, map, foldl-map}
use Prim.Native.Nat.{ℕ, ◌≤◌}
use native.Mathlib.Omega.{arith}
use lib.Dec.{leb, ltb}
use lib.ListN.{length}
use borrow.Author.Tests.{ltb-false, le-leb}
use Rattle.octets.specs.Below.{Octets}
use Rattle.rfc4737.specs.declared.Arrival.{Arrival}
use Rattle.rfc4737.specs.declared.Measure.{Measure}
use Rattle.rfc4737.specs.Arrivals.{has, firsts, each, each_after, count}
use Rattle.rfc4737.specs.Times.{steps_back}
use Rattle.rfc4737.specs.Extent.{byte_offset}
use Rattle.rfc4737.specs.Runs.{is_duplicate}
use Rattle.rfc4737.specs.Answer.{first_answer, answer_to, answers}
use Rattle.rfc4737.specs.Needs.{needed_for, greatest, greatest_need, accommodates, accommodated}
use Rattle.rfc4737.proofs.Tests.{neither, join}
use Rattle.rfc4737.proofs.Lists.{snoc-ind, All, Ordered, all-weaken, all_left, all_right, ordered-left, each_more}
use Rattle.rfc4737.proofs.Folds.{answers-more, answer-duplicate, answer-first, not-duplicate, arrived-answers}
use Rattle.rfc4737.proofs.Packets.{OfPackets}
use Rattle.rfc4737.proofs.Judged.{judged-packets}
use Rattle.rfc4737.proofs.Needs.{greatest-least, greatest-most, need-least, need-most, all_in}
use Rattle.sample.specs.Decode.{Decoded, decode, refused, accepted}
use Rattle.sample.proofs.Accepted.{accepted-limits}
use Rattle.buffering.specs.Restoring.{received, in_time, in_time_count, held, most_held, AllArrive, Restores, RestoresFile}
use Rattle.buffering.proofs.InTime.{NotBack, one-in-time, all-in-time}
use Rattle.buffering.proofs.Held.{needs-octets, needs-packets, never-more, holds-offset}

-- ---- a clock that does not step back

steps_low : (t : ℕ) (l : List Arrival) → steps_back t l ≡ false → All (λ (a : Arrival). t ≤ a.time) l
unfolding steps_back
steps_low t [] e = tt
steps_low t (a ∷ l) e =
    let k = neither (ltb a.time t) (steps_back a.time l) e in
    let n = ltb-false a.time t k.0 in (
      n,
      all-weaken {P = λ (b : Arrival). a.time ≤ b.time} {Q = λ (b : Arrival). t ≤ b.time} (λ b q. omega (arith, q, n)) l
          (steps_low a.time l k.1),
    )

steps-ordered : (t : ℕ) (l : List Arrival) → steps_back t l ≡ false → Ordered NotBack l
unfolding steps_back
steps-ordered t [] e = tt
steps-ordered t (a ∷ l) e =
    let k = neither (ltb a.time t) (steps_back a.time l) e in
    (steps_low a.time l k.1, steps-ordered a.time l k.1)

-- ---- the most that is held

module _ (w : ℕ) (z : ℕ → ℕ) where
  -- after the next arrival
  abbrev now-held : List Arrival → Arrival → ℕ
  now-held l a = held z (received w (firsts (l ++ (a ∷ []))))

  most-least : (l : List Arrival) (a : Arrival) → (most_held w z l ≤ most_held w z (l ++ (a ∷ [])))
      × (now-held l a ≤ most_held w z (l ++ (a ∷ [])))
  unfolding most_held
  most-least l a = rw (each_more _ l a) (greatest-least (each _ l) _)

  most-most : (l : List Arrival) (a : Arrival) (n : ℕ) → most_held w z l ≤ n → now-held l a ≤ n → most_held w z (l ++ (a ∷ [])) ≤ n
  unfolding most_held
  most-most l a n h g = rw (each_more _ l a) (greatest-most (each _ l) _ n h g)

  -- the sum held now is at most the greatest
  held-most : (l : List Arrival) → held z (received w (firsts l)) ≤ most_held w z l
  unfolding held received firsts most_held
  held-most = snoc-ind (λ (l : List Arrival). held z (received w (firsts l)) ≤ most_held w z l) (λ l a h. (most-least l a).1) (omega arith)

-- never more than the greatest need, if all packets arrive
module _ (m : Measure) (size z : ℕ → ℕ) (needs : (fs : List Arrival) (a : Arrival)
    → byte_offset z fs a.number ≤ needed_for m (first_answer size fs a)) (w k : ℕ) where
  abbrev Low : List Arrival → Type 0
  Low l = All (λ (a : Arrival). a.number ≤ k) l

  most-held : (l after : List Arrival) → Low l → AllArrive k (l ++ after) → most_held w z l ≤ greatest_need m (answers size (l ++ after))
  unfolding most_held greatest each each_after
  most-held =
      snoc-ind (λ (l : List Arrival). (after : List Arrival) → Low l → AllArrive k (l ++ after)
      → most_held w z l ≤ greatest_need m (answers size (l ++ after))) more (λ after h g. omega arith)
    where
      more : (l : List Arrival) (a : Arrival) → ((after : List Arrival) → Low l → AllArrive k (l ++ after)
          → most_held w z l ≤ greatest_need m (answers size (l ++ after)))
          → (after : List Arrival) → Low (l ++ (a ∷ [])) → AllArrive k ((l ++ (a ∷ [])) ++ after)
          → most_held w z (l ++ (a ∷ [])) ≤ greatest_need m (answers size ((l ++ (a ∷ [])) ++ after))
      more l a k after h g =
          most-most w z l a _
          (subst (λ (x : List Arrival). most_held w z l ≤ greatest_need m (answers size x)) (sym split)
          (k (a ∷ after) (all_left _ l (a ∷ []) h) (λ s n i. ap (has s) (sym split) ∙ g s n i)))
          (never-more m size z needs w _ (l ++ (a ∷ [])) after h g)
        where
          split : (l ++ (a ∷ [])) ++ after ≡ l ++ (a ∷ after)
          split = append_assoc l (a ∷ []) after

-- ---- the need of every packet is held

module _ (w : ℕ) (size : ℕ → ℕ) where
  abbrev Numbered : List Arrival → Type 0
  Numbered l = All (λ (a : Arrival). 1 ≤ a.number) l

  -- a packet that needs at most w finds its byte offset held
  one-needed : (l : List Arrival) (a : Arrival) → Ordered NotBack (l ++ (a ∷ [])) → 1 ≤ a.number
      → needed_for Measure.Time (answer_to size l a) ≤ w
      → needed_for Measure.Octets (answer_to size l a) ≤ most_held w size l
  one-needed l a o n h = go (has a.number l) refl
    where
      go : (b : Bool) → has a.number l ≡ b → needed_for Measure.Octets (answer_to size l a) ≤ most_held w size l
      go true q = rw (answer-duplicate size l a q) (omega arith)
      go false q =
          let e : accommodates Measure.Time w (answer_to size l a) ≡ true =
          join (not (is_duplicate (answer_to size l a))) (leb (needed_for Measure.Time (answer_to size l a)) w)
          (rw (answer-first size l a q) (not-duplicate size (firsts l) a)) (le-leb _ w h) in
          let f = holds-offset.found w size l a (one-in-time w size l a o n ∙ e) in
          omega (arith, f, holds-offset.falls w a.time size (received w (firsts l)), held-most w size l)

  held-needed : (l : List Arrival) → Ordered NotBack l → Numbered l → greatest_need Measure.Time (answers size l) ≤ w
      → greatest_need Measure.Octets (answers size l) ≤ most_held w size l
  unfolding greatest_need greatest answers each each_after
  held-needed =
      snoc-ind (λ (l : List Arrival). Ordered NotBack l → Numbered l → greatest_need Measure.Time (answers size l) ≤ w
      → greatest_need Measure.Octets (answers size l) ≤ most_held w size l) more (λ o n h. omega arith)
    where
      more : (l : List Arrival) (a : Arrival)
          → (Ordered NotBack l → Numbered l → greatest_need Measure.Time (answers size l) ≤ w
          → greatest_need Measure.Octets (answers size l) ≤ most_held w size l)
          → Ordered NotBack (l ++ (a ∷ [])) → Numbered (l ++ (a ∷ [])) → greatest_need Measure.Time (answers size (l ++ (a ∷ []))) ≤ w
          → greatest_need Measure.Octets (answers size (l ++ (a ∷ []))) ≤ most_held w size (l ++ (a ∷ []))
      more l a k o n h =
          let e = answers-more size l a in
          let t = need-least Measure.Time (answers size l) (answer_to size l a) in
          let g : greatest_need Measure.Time (answers size l ++ (answer_to size l a ∷ [])) ≤ w = rw e at h in
          let i = k (ordered-left NotBack l (a ∷ []) o) (all_left _ l (a ∷ []) n) (omega (arith, t.0, g)) in
          let j = one-needed l a o (all_right (λ (b : Arrival). 1 ≤ b.number) l (a ∷ []) n).0 (omega (arith, t.1, g)) in
          let m = (most-least w size l a).0 in
          rw e (need-most Measure.Octets (answers size l) (answer_to size l a) _ (omega (arith, i, m)) (omega (arith, j, m)))

-- ---- the theorem

-- for arrivals of the packets 1 to k
of-packets : (k : ℕ) (size : ℕ → ℕ) (l : List Arrival) → All (OfPackets k) l → Restores k size l
unfolding in_time_count accommodated count
of-packets k size l of =
    record {
      which = which;
      many = many;
      octets = octets;
      packets = packets;
      most = λ w all e h. let n = held-needed w size l (steps-ordered 0 l e) numbered h in let m = octets w all in omega (arith, n, m);
      enough =
          λ all e. record {
            intime = many _ e ∙ all_in Measure.Time _ (answers size l) (omega arith) ∙ arrived-answers size l;
            storage = octets _ all;
            places = packets _ all;
          };
    }
  where
    numbered : All (λ (a : Arrival). 1 ≤ a.number) l
    numbered = all-weaken {P = OfPackets k} {Q = λ (a : Arrival). 1 ≤ a.number} (λ a h. h.low) l of

    low : All (λ (a : Arrival). a.number ≤ k) l
    low = all-weaken {P = OfPackets k} {Q = λ (a : Arrival). a.number ≤ k} (λ a h. h.high) l of

    which : (w : ℕ) → steps_back 0 l ≡ false → each (in_time w) l ≡ map (accommodates Measure.Time w) (answers size l)
    which w e = all-in-time w size l (steps-ordered 0 l e) numbered

    many : (w : ℕ) → steps_back 0 l ≡ false → in_time_count w l ≡ accommodated Measure.Time w (answers size l)
    many w e = rw (which w e) (foldl-map _ _ (answers size l) 0)

    never : (m : Measure) (z : ℕ → ℕ) → ((fs : List Arrival) (a : Arrival)
        → byte_offset z fs a.number ≤ needed_for m (first_answer size fs a))
        → (w : ℕ) → AllArrive k l → most_held w z l ≤ greatest_need m (answers size l)
    never m z needs w all =
        subst (λ (x : List Arrival). most_held w z l ≤ greatest_need m (answers size x)) (append-nil l)
        (most-held m size z needs w k l [] low (λ s n h. ap (has s) (append-nil l) ∙ all s n h))

    octets : (w : ℕ) → AllArrive k l → most_held w size l ≤ greatest_need Measure.Octets (answers size l)
    octets = never Measure.Octets size (needs-octets size)

    packets : (w : ℕ) → AllArrive k l → most_held w (λ _. 1) l ≤ greatest_need Measure.Packets (answers size l)
    packets = never Measure.Packets (λ _. 1) (needs-packets size)

-- for the arrivals of a file; a refused file has none
pub restores : (file : List ℕ) → Octets file → RestoresFile (decode file)
restores file o = go (decode file) refl
  where
    go : (d : Decoded) → decode file ≡ d → RestoresFile d
    go (refused r) e = of-packets _ _ [] tt
    go (accepted s) e =
        of-packets _ _ s.arrivals (judged-packets (length s.sizes) 0 s.arrivals (accepted-limits file s e o).judged)
