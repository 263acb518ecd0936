-- The discontinuity of a packet is the jump that skipped it: the jump before which the packet was not below NextExp, and after which it
-- was. By induction on the next first arrival: if there was a discontinuity before, it is the same, and the new arrival comes after it
-- (`skipped-more`). If there was none, it is the new arrival, and NextExp before it is at most s, since no jump was above s
-- (`search-agrees` of Jumps). Here s is the packet, which has not arrived, fs are the first arrivals, a is the new one, d the
-- discontinuity. Assumes nothing.
use Prim.Native.Nat.{ℕ, ◌≤◌, ◌<◌}
use mathlib.Core.Path.{◌≡◌, refl, sym, ap, ◌∙◌}
use mathlib.Core.Bool.{Bool, true, false, cond}
use mathlib.Core.List.{List, [], ◌∷◌, ◌++◌, append_assoc}
use mathlib.Core.Option.{Option, none, some, some-ne-none}
use lib.Dec.{ltb}
use borrow.Author.Tests.{ltb-true}
use Rattle.rfc4737.specs.declared.Arrival.{Arrival}
use Rattle.rfc4737.specs.Arrivals.{has, each, each_after}
use Rattle.rfc4737.specs.Order.{FirstArrival, next_exp, place_after, placed}
use Rattle.rfc4737.specs.Extent.{first_above, discontinuity}
use Rattle.rfc4737.proofs.Lists.{snoc-ind}
use Rattle.rfc4737.proofs.Jumps.{has-more-false, placed-more, or_else, first_above-append, search-agrees}

-- the packet s was skipped where d stands: the arrival there is above s, and NextExp before it was at most s
pub record SkippedAt (s : ℕ) (fs : List Arrival) (d : FirstArrival) : Type 0 where
  pub before : List Arrival
  pub arrival : Arrival
  pub after : List Arrival
  pub parts : fs ≡ before ++ (arrival ∷ after)
  pub place : place_after before arrival ≡ d
  pub low : next_exp before ≤ s
  pub high : s < arrival.number

-- one arrival more does not change where it was skipped
skipped-more : (s : ℕ) (fs : List Arrival) (a : Arrival) (d : FirstArrival) → SkippedAt s fs d → SkippedAt s (fs ++ (a ∷ [])) d
skipped-more s fs a d k =
    record {
      before = k.before;
      arrival = k.arrival;
      after = k.after ++ (a ∷ []);
      parts = ap (λ (l : List Arrival). l ++ (a ∷ [])) k.parts ∙ append_assoc k.before (k.arrival ∷ k.after) (a ∷ []);
      place = k.place;
      low = k.low;
      high = k.high;
    }

-- of a packet that has not arrived, the discontinuity is the jump that skipped it
pub discontinuity-skipped : (s : ℕ) → 1 ≤ s → (fs : List Arrival) → has s fs ≡ false → (d : FirstArrival) → discontinuity fs s ≡ some d
    → SkippedAt s fs d
unfolding discontinuity first_above placed each each_after
discontinuity-skipped s h =
    snoc-ind (λ (fs : List Arrival). has s fs ≡ false → (d : FirstArrival) → discontinuity fs s ≡ some d → SkippedAt s fs d) more
    (λ n d e. absurd (some-ne-none d (sym e)))
  where
    more : (fs : List Arrival) (a : Arrival)
        → (has s fs ≡ false → (d : FirstArrival) → discontinuity fs s ≡ some d → SkippedAt s fs d)
        → has s (fs ++ (a ∷ [])) ≡ false
        → (d : FirstArrival)
        → discontinuity (fs ++ (a ∷ [])) s ≡ some d
        → SkippedAt s (fs ++ (a ∷ [])) d
    more fs a k n d e =
        found (first_above s (placed fs)) (ltb s a.number) refl refl
        (sym (ap (first_above s) (placed-more fs a) ∙ first_above-append s (placed fs) (place_after fs a ∷ [])) ∙ e)
      where
        new : has s fs ≡ false
        new = (has-more-false s fs a n).0

        found : (o : Option FirstArrival) (t : Bool) → first_above s (placed fs) ≡ o → ltb s a.number ≡ t
            → or_else (first_above s (placed fs)) (cond (ltb s a.number) (some (place_after fs a)) none) ≡ some d
            → SkippedAt s (fs ++ (a ∷ [])) d
        found (some p) t q l e = skipped-more s fs a d (k new d (q ∙ (rw q at e)))
        found none true q l e =
            record {
              before = fs;
              arrival = a;
              after = [];
              parts = refl;
              place = cc (rw (q, l) at e);
              low = (search-agrees s h fs new).next (sym (search-agrees s h fs new).same ∙ q);
              high = ltb-true _ _ l;
            }
        found none false q l e = absurd (some-ne-none d (sym (rw (q, l) at e)))
