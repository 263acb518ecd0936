-- The window lemma, for any split of rising jumps into dropped and kept ones, of which there is at least one: a packet's discontinuity is
-- dropped exactly if its number is below that of the last dropped jump. Then every kept jump is above the packet and lies after the
-- discontinuity; if not, the search among the kept jumps finds the discontinuity. For no dropped jump is above the last (`last-highest`),
-- so if the packet is not below that one the search passes them all; and where it passes them all the last is not above the packet
-- (`last-not-above`). Here s is the packet, d its discontinuity, o the oldest kept jump and later those after it, ds are some jumps, p and
-- q jumps. Assumes nothing.
use Prim.Native.Nat.{ℕ, ◌≤◌, ◌<◌}
use mathlib.Core.Path.{◌≡◌, refl, sym, ap, ◌∙◌}
use mathlib.Core.Bool.{Bool, true, false, cond, or-true}
use mathlib.Core.List.{List, [], ◌∷◌, ◌++◌, Memᴰ, foldl, foldl-append}
use mathlib.Core.Option.{Option, none, some, some-ne-none}
use native.Mathlib.Omega.{arith}
use lib.Dec.{ltb, eqb}
use borrow.Author.Tests.{ltb-false, lt-ltb, eq-eqb, ne_eqb}
use Rattle.rfc4737.specs.Order.{FirstArrival}
use Rattle.rfc4737.specs.Extent.{first_above}
use Rattle.rfc4737.proofs.Lists.{snoc-ind, All, Ordered, all-weaken, all_append, all-member, ordered-left, ordered-across}
use Rattle.rfc4737.proofs.Jumps.{Rises, or_else, first_above-append, first_above-member, first_above-none}
use Rattle.receiver.specs.Account.{stands_in}

-- the number of the last of some jumps, 0 for none
unfoldable pub last_number : List FirstArrival → ℕ
last_number ds = foldl (λ (n : ℕ) (p : FirstArrival). p.number) 0 ds

pub last_more : (ds : List FirstArrival) (p : FirstArrival) → last_number (ds ++ (p ∷ [])) ≡ p.number
unfolding last_number
last_more ds p = foldl-append _ 0 ds (p ∷ [])

-- none of rising jumps has a number above the last one's
last-highest : (ds : List FirstArrival) → Ordered Rises ds → All (λ (p : FirstArrival). p.number ≤ last_number ds) ds
last-highest =
    snoc-ind (λ (ds : List FirstArrival). Ordered Rises ds → All (λ (p : FirstArrival). p.number ≤ last_number ds) ds) more (λ h. tt)
  where
    more : (ds : List FirstArrival) (q : FirstArrival)
        → (Ordered Rises ds → All (λ (p : FirstArrival). p.number ≤ last_number ds) ds)
        → Ordered Rises (ds ++ (q ∷ []))
        → All (λ (p : FirstArrival). p.number ≤ last_number (ds ++ (q ∷ []))) (ds ++ (q ∷ []))
    more ds q h g =
        rw last_more
        (all_append (λ (p : FirstArrival). p.number ≤ q.number) ds (q ∷ [])
        (all-weaken (λ (p : FirstArrival) (k : Rises p q × Unit). omega arith) ds (ordered-across Rises ds (q ∷ []) g))
        (omega arith))

-- where no jump is above s, the last one is not
last-not-above : (s : ℕ) (ds : List FirstArrival) → first_above s ds ≡ none → last_number ds ≤ s
unfolding last_number first_above
last-not-above s = snoc-ind (λ (ds : List FirstArrival). first_above s ds ≡ none → last_number ds ≤ s) more (λ h. omega arith)
  where
    one : (o : Option FirstArrival) (t : Bool) (p : FirstArrival) → or_else o (cond t (some p) none) ≡ none → t ≡ false
    one none true p e = absurd (some-ne-none _ e)
    one none false p e = refl
    one (some q) t p e = absurd (some-ne-none _ e)

    more : (ds : List FirstArrival) (p : FirstArrival)
        → (first_above s ds ≡ none → last_number ds ≤ s)
        → first_above s (ds ++ (p ∷ [])) ≡ none
        → last_number (ds ++ (p ∷ [])) ≤ s
    more ds p h e =
        rw last_more
        (ltb-false _ _ (one (first_above s ds) (ltb s p.number) p (sym (first_above-append s ds (p ∷ [])) ∙ e)))

-- a jump stands among those that it is one of
member-stands : (p : FirstArrival) (l : List FirstArrival) → Memᴰ p l → stands_in p.position l ≡ true
unfolding stands_in
member-stands p [] x' = elim x' [ ]
member-stands p (q ∷ l) (Memᴰ.head e) =
    let k : eqb q.position p.position ≡ true = eq-eqb _ _ (ap (λ (r : FirstArrival). r.position) (sym e)) in
    simp k
member-stands p (q ∷ l) (Memᴰ.tail m) = simp (member-stands p l m, or-true)

-- and does not stand among those that all lie after it
after-stands : (p : FirstArrival) (l : List FirstArrival) → All (Rises p) l → stands_in p.position l ≡ false
unfolding stands_in
after-stands p [] h = refl
after-stands p (q ∷ l) h =
    let e : eqb q.position p.position ≡ false = ne_eqb q.position p.position (λ w. let r : Rises p q = h.0 in omega arith) in
    simp (e, after-stands p l h.1)

-- a discontinuity d that is dropped: it is none of the kept jumps, of which o is the oldest; the search among them finds o,
-- which lies after it
pub record IsDropped (s : ℕ) (kept : List FirstArrival) (o d : FirstArrival) : Type 0 where
  pub apart : stands_in d.position kept ≡ false
  pub oldest : first_above s kept ≡ some o
  pub position : d.position < o.position

-- a discontinuity d that is kept: the search among the kept jumps finds it
pub record IsKept (s : ℕ) (kept : List FirstArrival) (d : FirstArrival) : Type 0 where
  pub among : stands_in d.position kept ≡ true
  pub is : first_above s kept ≡ some d

module _ (s : ℕ) (dropped : List FirstArrival) (o : FirstArrival) (later : List FirstArrival)
    (rise : Ordered Rises (dropped ++ (o ∷ later)))
    (d : FirstArrival)
    (found : first_above s (dropped ++ (o ∷ later)) ≡ some d) where
  -- what the search among all the jumps finds, where it finds one among the dropped
  from-dropped : (p : FirstArrival) → first_above s dropped ≡ some p → IsDropped s (o ∷ later) o d
  unfolding first_above
  from-dropped p e =
      let same : p ≡ d = cc (rw e at (first_above-append s dropped (o ∷ later))) in
      let m = first_above-member s dropped d (e ∙ ap some same) in
      let after : All (Rises d) (o ∷ later) =
      all-member (λ (a : FirstArrival). All (Rises a) (o ∷ later)) m.0 (ordered-across Rises dropped (o ∷ later) rise) in
      let above : s < o.number = let r : Rises d o = after.0 in let a : s < d.number = m.1 in omega arith in
      record {
        apart = after-stands d (o ∷ later) after;
        oldest = simp (lt-ltb _ _ above);
        position = after.0.position;
      }

  -- the packet's number is below that of the last dropped jump
  pub discontinuity-before-window : s < last_number dropped → IsDropped s (o ∷ later) o d
  discontinuity-before-window h = go (first_above s dropped) refl
    where
      go : (r : Option FirstArrival) → first_above s dropped ≡ r → IsDropped s (o ∷ later) o d
      go none e = let k : last_number dropped ≤ s = last-not-above s dropped e in absurd (omega arith)
      go (some p) e = from-dropped p e

  -- it is not
  pub discontinuity-in-window : last_number dropped ≤ s → IsKept s (o ∷ later) d
  discontinuity-in-window h =
      let low = last-highest dropped (ordered-left Rises dropped (o ∷ later) rise) in
      let below : All (λ (p : FirstArrival). p.number ≤ s) dropped =
      all-weaken (λ (p : FirstArrival) (k : p.number ≤ last_number dropped). omega arith) dropped low in
      let e : first_above s (o ∷ later) ≡ some d =
      sym (rw (first_above-none s dropped below) at (first_above-append s dropped (o ∷ later))) ∙ found in
      record { among = member-stands d (o ∷ later) (first_above-member s (o ∷ later) d e).0; is = e }
