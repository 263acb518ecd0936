-- The state of the jumps (`Holds`): the places have the list of those kept, and the dropped number is that of the last one dropped. Lists
-- of places are compared place by place (`places_same`). Jumps laid in the places are read back (`laid_kept`), and the places after them
-- stay as they were (`laid-after`). So `Holds` stays true after any new jump: with room it goes after the kept ones (`holds-appended`);
-- without room the oldest is dropped, and its number is the dropped one (`holds-shifted`). By the receiver's own rule the last 64 jumps
-- are kept (`held-last`), by induction on the jumps: while fewer are kept none is dropped, and from then on each drops one.
-- Here ds and ws are the dropped and the kept jumps, js all jumps, ks those laid, h is the state, p the new jump, q the oldest kept one;
-- xs are the values written to one array. Assumes nothing.
use Prim.Native.Nat.{ℕ, zero, suc, ◌+◌, ◌-◌, ◌≤◌, ◌<◌}
use mathlib.Core.Path.{◌≡◌, refl, sym, ap, ap₂, ◌∙◌}
use mathlib.Core.Bool.{Bool, true, false}
use mathlib.Core.List.{List, [], ◌∷◌, ◌++◌, map, foldl}
use native.Mathlib.Nat.{add-zero, add-suc, suc-add}
use native.Mathlib.Omega.{arith}
use lib.Dec.{ltb}
use lib.ListN.{length, get_or, take, drop, replicate, length-append, length-drop, length-map}
use lib.Seq.{get_or-drop, get_or-append-add, drop-append-le, take-append-le, take-suc, drop-cons}
use borrow.Author.Tests.{ltb-true, ltb-false}
use Rattle.octets.specs.Memory.{over}
use Rattle.octets.proofs.Memory.{over-length}
use Rattle.rfc4737.specs.Order.{FirstArrival}
use Rattle.rfc4737.proofs.Lists.{snoc-ind}
use Rattle.rfc4737.proofs.Arrivals.{fold_more}
use Rattle.receiver.specs.declared.Places.{Places}
use Rattle.receiver.specs.Limits.{window_places}
use Rattle.receiver.specs.Kept.{place_at, places_from, Held, kept_of, kept_with, laid, with_jump}
use Rattle.receiver.proofs.Window.{last_number, last_more}

-- as many jumps as places
pub length-places : (l : Places) (at n : ℕ) → length (places_from l at n) ≡ n
unfolding places_from
length-places l at zero = refl
length-places l at (suc n) = ap suc (length-places l (suc at) n)

-- the places from one on hold what those from another on hold, if each holds what the other does
pub places_same : (l m : Places) (at to n : ℕ) → ((k : ℕ) → k < n → place_at l (at + k) ≡ place_at m (to + k))
    → places_from l at n ≡ places_from m to n
unfolding places_from
places_same l m at to zero h = refl
places_same l m at to (suc n) h =
    let e : place_at l at ≡ place_at m to = simp add-zero at (h 0 (omega arith)) in
    ap₂ {C = List FirstArrival} ◌∷◌ e (places_same l m (suc at) (suc to) n (λ k g. simp (suc-add, ← add-suc) (h (suc k) (omega arith))))

-- a jump, by its fields
pub placed-path : (p q : FirstArrival) → p.position ≡ q.position → p.number ≡ q.number → p.time ≡ q.time → p ≡ q
placed-path p q e f g = λ i. record { position = e i; number = f i; time = g i }

-- the oldest stands in the first place
first-place : (h : Held) (n : ℕ) (q : FirstArrival) → h.kept ≡ suc n → get_or (kept_of h) 0 q ≡ place_at h.places 0
unfolding kept_of places_from
first-place h n q e = ap (λ (m : ℕ). get_or (places_from h.places 0 m) 0 q) e

-- ---- jumps laid in the places

-- they are read back: of arrays that begin with their values the first places hold them
read_back : (ks : List FirstArrival) (xs ys zs : List ℕ)
    → places_from
    (record {
      positions = map (λ (p : FirstArrival). p.position) ks ++ xs;
      numbers = map (λ (p : FirstArrival). p.number) ks ++ ys;
      times = map (λ (p : FirstArrival). p.time) ks ++ zs;
    }) 0 (length ks) ≡ ks
unfolding places_from place_at
read_back [] xs ys zs = refl
read_back (k ∷ ks) xs ys zs =
    ap {B = List FirstArrival} (λ l. k ∷ l)
    (places_same (record {
      positions = map (λ (p : FirstArrival). p.position) (k ∷ ks) ++ xs;
      numbers = map (λ (p : FirstArrival). p.number) (k ∷ ks) ++ ys;
      times = map (λ (p : FirstArrival). p.time) (k ∷ ks) ++ zs;
    }) (record {
      positions = map (λ (p : FirstArrival). p.position) ks ++ xs;
      numbers = map (λ (p : FirstArrival). p.number) ks ++ ys;
      times = map (λ (p : FirstArrival). p.time) ks ++ zs;
    }) 1 0 (length ks)
    (λ i g. let e : 1 + i ≡ suc i = omega arith in let z : 0 + i ≡ i = omega arith in rw (e, z))
    ∙ read_back ks xs ys zs)

laid_kept : (ks : List FirstArrival) (l : Places) → places_from (laid ks l) 0 (length ks) ≡ ks
unfolding laid
laid_kept ks l = read_back ks _ _ _

-- a value after those written is what it was
over-after : (xs old : List ℕ) (k : ℕ) → length xs ≤ k → get_or (over xs old) k 0 ≡ get_or old k 0
over-after xs old k h =
    let i : ℕ = k - length xs in
    let e : k ≡ length xs + i = omega arith in
    ap (λ (m : ℕ). get_or (over xs old) m 0) e
    ∙ get_or-append-add xs (drop (length xs) old) i 0
    ∙ get_or-drop (length xs) old i 0
    ∙ ap (λ (m : ℕ). get_or old m 0) (sym e)

-- so the places after them hold what they held
laid-after : (ks : List FirstArrival) (l : Places) (k : ℕ) → length ks ≤ k → place_at (laid ks l) k ≡ place_at l k
unfolding laid place_at
laid-after ks l k h =
    placed-path _ _
    (over-after (map (λ (p : FirstArrival). p.position) ks) l.positions k (rw (length-map ks (λ (p : FirstArrival). p.position)) h))
    (over-after (map (λ (p : FirstArrival). p.number) ks) l.numbers k (rw (length-map ks (λ (p : FirstArrival). p.number)) h))
    (over-after (map (λ (p : FirstArrival). p.time) ks) l.times k (rw (length-map ks (λ (p : FirstArrival). p.time)) h))

-- ---- the state, for any split of the jumps

-- the places are as many as an array of them has
pub record AllPlaces (l : Places) : Type 0 where
  pub positions : length l.positions ≡ window_places
  pub numbers : length l.numbers ≡ window_places
  pub times : length l.times ≡ window_places

-- h is the state of some jumps, those dropped and then those kept
pub record Holds (ds ws : List FirstArrival) (h : Held) : Type 0 where
  pub long : AllPlaces h.places
  pub kept : kept_of h ≡ ws
  pub dropped : h.dropped ≡ last_number ds

-- how many are kept
pub holds-count : (ds ws : List FirstArrival) (h : Held) → Holds ds ws h → h.kept ≡ length ws
unfolding kept_of
holds-count ds ws h o = sym (length-places h.places 0 h.kept) ∙ ap length o.kept

-- after a new jump p, whether there is room for it or not
module _ (room : Bool) (ds ws : List FirstArrival) (h : Held) (p : FirstArrival) (o : Holds ds ws h) where
  -- the places hold the jumps kept then
  kept_then : kept_of (with_jump room h p) ≡ kept_with room ws p
  unfolding kept_of with_jump
  kept_then = laid_kept (kept_with room (kept_of h) p) h.places ∙ ap (λ (l : List FirstArrival). kept_with room l p) o.kept

  -- they are as many as before
  long-then : length (kept_with room ws p) ≤ window_places → AllPlaces (with_jump room h p).places
  unfolding with_jump laid
  long-then few =
      let ks : List FirstArrival = kept_with room (kept_of h) p in
      let n : length ks ≤ window_places = rw o.kept few in
      record {
        positions =
            over-length (map (λ (p : FirstArrival). p.position) ks) h.places.positions
            (rw (length-map ks (λ (p : FirstArrival). p.position), o.long.positions) n) ∙ o.long.positions;
        numbers =
            over-length (map (λ (p : FirstArrival). p.number) ks) h.places.numbers
            (rw (length-map ks (λ (p : FirstArrival). p.number), o.long.numbers) n) ∙ o.long.numbers;
        times =
            over-length (map (λ (p : FirstArrival). p.time) ks) h.places.times
            (rw (length-map ks (λ (p : FirstArrival). p.time), o.long.times) n) ∙ o.long.times;
      }

  -- and those after the kept ones hold what they held
  pub jump-frame : (k : ℕ) → length (kept_with room ws p) ≤ k → place_at (with_jump room h p).places k ≡ place_at h.places k
  unfolding with_jump
  jump-frame k le = laid-after (kept_with room (kept_of h) p) h.places k (rw o.kept le)

-- with room none is dropped
pub holds-appended : (ds ws : List FirstArrival) (h : Held) (p : FirstArrival) → Holds ds ws h → length ws < window_places
    → Holds ds (ws ++ (p ∷ [])) (with_jump true h p)
unfolding with_jump kept_with
holds-appended ds ws h p o lt =
    let n : length (ws ++ (p ∷ [])) ≡ length ws + 1 = length-append ws (p ∷ []) in
    let few : length (ws ++ (p ∷ [])) ≤ window_places = omega arith in
    record { long = long-then true ds ws h p o few; kept = kept_then true ds ws h p o; dropped = o.dropped }

-- without room the oldest is
pub holds-shifted : (ds : List FirstArrival) (q : FirstArrival) (ws : List FirstArrival) (h : Held) (p : FirstArrival)
    → Holds ds (q ∷ ws) h → length (q ∷ ws) ≤ window_places
    → Holds (ds ++ (q ∷ [])) (ws ++ (p ∷ [])) (with_jump false h p)
unfolding with_jump kept_with
holds-shifted ds q ws h p o le =
    let n : length (ws ++ (p ∷ [])) ≡ length ws + 1 = length-append ws (p ∷ []) in
    let few : length (ws ++ (p ∷ [])) ≤ window_places = omega arith in
    let c : h.kept ≡ suc (length ws) = holds-count ds (q ∷ ws) h o in
    let oldest : place_at h.places 0 ≡ q = sym (first-place h (length ws) p c) ∙ ap (λ (l : List FirstArrival). get_or l 0 p) o.kept in
    record {
      long = long-then false ds (q ∷ ws) h p o few;
      kept = kept_then false ds (q ∷ ws) h p o;
      dropped = rw last_more (ap (λ (q : FirstArrival). q.number) oldest);
    }

-- ---- the receiver's own rule: the last 64

-- at first nothing is held
unfoldable pub none_held : Held
none_held =
    record {
      kept = 0;
      dropped = 0;
      places = record { positions = replicate window_places 0; numbers = replicate window_places 0; times = replicate window_places 0 };
    }

-- the state after some jumps, one after the other
unfoldable pub held_from : List FirstArrival → Held
held_from js = foldl (λ (h : Held) (p : FirstArrival). with_jump (ltb h.kept window_places) h p) none_held js

pub held_more : (js : List FirstArrival) (p : FirstArrival) → held_from (js ++ (p ∷ []))
    ≡ with_jump (ltb (held_from js).kept window_places) (held_from js) p
unfolding held_from
held_more js p = fold_more (λ (h : Held) (p : FirstArrival). with_jump (ltb h.kept window_places) h p) none_held js p

-- of these the last are kept
abbrev HoldsLast : List FirstArrival → Held → Type 0
HoldsLast js h = Holds (take (length js - window_places) js) (drop (length js - window_places) js) h

holds_more : (js : List FirstArrival) (h : Held) (p : FirstArrival) → HoldsLast js h
    → HoldsLast (js ++ (p ∷ [])) (with_jump (ltb h.kept window_places) h p)
holds_more js h p o = go (ltb h.kept window_places) refl
  where
    c : h.kept ≡ length js - (length js - window_places)
    c =
        holds-count (take (length js - window_places) js) (drop (length js - window_places) js) h o
        ∙ length-drop (length js - window_places) js

    l : length (js ++ (p ∷ [])) ≡ length js + 1
    l = length-append js (p ∷ [])

    go : (t : Bool) → ltb h.kept window_places ≡ t → HoldsLast (js ++ (p ∷ [])) (with_jump t h p)
    go true e =
        let lt : h.kept < window_places = ltb-true _ _ e in
        let q : h.kept ≡ length js - (length js - window_places) = c in
        let m : length (js ++ (p ∷ [])) ≡ length js + 1 = l in
        let z : length js - window_places ≡ 0 = omega arith in
        let y : length (js ++ (p ∷ [])) - window_places ≡ 0 = omega arith in
        let k : Holds [] js h = rw z at o in
        rw y (holds-appended [] js h p k (omega arith))
    go false e =
        let ge : window_places ≤ h.kept = ltb-false _ _ e in
        let q : h.kept ≡ length js - (length js - window_places) = c in
        let m : length (js ++ (p ∷ [])) ≡ length js + 1 = l in
        let n : ℕ = length js - window_places in
        let lt : n < length js = omega arith in
        let y : length (js ++ (p ∷ [])) - window_places ≡ suc n = omega arith in
        let f : drop n js ≡ get_or js n p ∷ drop (suc n) js = drop-cons js n p lt in
        let k : Holds (take n js) (get_or js n p ∷ drop (suc n) js) h = rw f at o in
        let s : length (drop (suc n) js) ≡ length js - suc n = length-drop (suc n) js in
        rw (y, take-append-le (suc n) js (p ∷ []) lt, take-suc js n p lt, drop-append-le (suc n) js (p ∷ []) lt)
        (holds-shifted (take n js) (get_or js n p) (drop (suc n) js) h p k (omega arith))

-- so it is after any number of jumps
pub held-last : (js : List FirstArrival) → HoldsLast js (held_from js)
unfolding held_from none_held kept_of places_from last_number
held-last =
    snoc-ind (λ (js : List FirstArrival). HoldsLast js (held_from js)) more
    (record { long = record { positions = refl; numbers = refl; times = refl }; kept = refl; dropped = refl })
  where
    more : (js : List FirstArrival) (p : FirstArrival) → HoldsLast js (held_from js) → HoldsLast (js ++ (p ∷ [])) (held_from (js ++ (p ∷ [])))
    more js p o = rw held_more (holds_more js (held_from js) p o)
