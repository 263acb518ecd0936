-- The fit test of the kept places, as the code makes it: three passes over positions, numbers and times, each over all kept values. A pass
-- asks whether each of the first values passes a test: one value more at a time (`pass-none`, `pass-more`), and exactly if
-- each value does (`pass-at`, `pass_all`, by induction on how many). A kept jump is fit by its position, number and time, so all kept
-- jumps are fit exactly if the three passes say so (`fit_apart`, `fit-joined`): one that fails refutes it (`positions-unfit`,
-- `numbers-unfit`), and after two that hold the times decide (`times-decide`).
-- Here t is a test of a value, f one of a jump, l are values, n is how many, k one of their places, and s are the stream's numbers.
-- Assumes nothing.
use Prim.Native.Nat.{ℕ, zero, suc, ◌+◌, ◌<◌, ◌≤◌}
use mathlib.Core.Bool.{Bool, true, false, ◌&&◌}
use mathlib.Core.List.{List, map}
use mathlib.Core.Path.{◌≡◌, refl, sym, ap, subst, ◌∙◌}
use native.Mathlib.Numerals.{add-one}
use native.Mathlib.Omega.{arith}
use lib.Dec.{leb, ltb}
use lib.ListN.{get_or}
use borrow.Author.Tests.{le-leb, leb-true, ltb-true, ltb-false}
use Rattle.rfc4737.specs.Order.{FirstArrival}
use Rattle.rfc4737.specs.Refusals.{within}
use Rattle.receiver.specs.declared.Stream.{Stream}
use Rattle.receiver.specs.declared.Places.{Places}
use Rattle.receiver.specs.Limits.{window_places}
use Rattle.receiver.specs.Fit.{every, jump_fit, places_fit}
use Rattle.receiver.specs.Private.{JumpFit, first_pass}
use Rattle.receiver.specs.Kept.{place_at, places_from, kept_of}
use Rattle.receiver.proofs.Fits.{both, and-true, within-true, jump-facts, jump_passes, places-pass, places-false}
use Rattle.receiver.proofs.Search.{all-at}

module _ (t : ℕ → Bool) (l : List ℕ) where
  -- before the first value all have passed
  pub pass-none : true ≡ first_pass t l 0
  unfolding first_pass
  pass-none = refl

  -- one value more
  pub pass-more : (i : ℕ) (fit one next : Bool) → fit ≡ first_pass t l i → one ≡ t (get_or l i 0) → next ≡ (fit && one)
      → next ≡ first_pass t l (i + 1)
  unfolding first_pass
  pass-more i fit one next f o n = n ∙ rw (f, o, add-one i)

  -- if all pass, each does
  pass-at : (n k : ℕ) → first_pass t l n ≡ true → k < n → t (get_or l k 0) ≡ true
  unfolding first_pass
  pass-at zero k e h = absurd (omega arith)
  pass-at (suc n) k e h = last (ltb k n) refl (λ q. pass-at n k (and-true _ _ e).0 q)
    where
      last : (b : Bool) → ltb k n ≡ b → (k < n → t (get_or l k 0) ≡ true) → t (get_or l k 0) ≡ true
      last true q before = before (ltb-true k n q)
      last false q before =
          let same : k ≡ n = omega (arith, ltb-false k n q) in
          subst (λ (i : ℕ). t (get_or l i 0) ≡ true) (sym same) (and-true (first_pass t l n) (t (get_or l n 0)) e).1

  -- if each passes, all do
  pass_all : (n : ℕ) → ((k : ℕ) → k < n → t (get_or l k 0) ≡ true) → first_pass t l n ≡ true
  unfolding first_pass
  pass_all zero p = refl
  pass_all (suc n) p = both (pass_all n (λ k h. p k (omega arith))) (p n (omega arith))

-- if each place passes a test, all do
all_pass : (places : Places) (f : FirstArrival → Bool) (n at : ℕ) → ((k : ℕ) → k < n → f (place_at places (at + k)) ≡ true)
    → every (map f (places_from places at n)) ≡ true
unfolding every places_from
all_pass places f zero at p = refl
all_pass places f (suc n) at p =
    let e : at + 0 ≡ at = omega arith in
    both (rw e at (p 0 (omega arith)))
    (all_pass places f n (suc at) (λ k h. let q : at + suc k ≡ suc at + k = omega arith in rw q at (p (suc k) (omega arith))))

-- no test both holds and fails
clash : {b : Bool} → b ≡ true → b ≡ false → ⊥
clash e f = let z : ◌≡◌ {A = ℕ} 0 1 = cc in omega arith

module _ (s : Stream) (places : Places) where
  -- how many places are kept
  abbrev n : ℕ
  n = s.kept

  -- each of n fit places is fit
  each-fit : every (map (jump_fit s) (places_from places 0 n)) ≡ true → (k : ℕ) → k < n
      → JumpFit s (place_at places k)
  each-fit e k h =
      let q : 0 + k ≡ k = omega arith in
      jump-facts s (place_at places k) (rw q at (all-at places (jump_fit s) n 0 k e h))

  -- the positions, numbers and times of n fit places pass, each by itself
  fit_apart : every (map (jump_fit s) (places_from places 0 n)) ≡ true
      → (first_pass (within 1 s.arrived) places.positions n ≡ true)
      × ((first_pass (within 1 s.sent) places.numbers n ≡ true)
      × (first_pass (λ (t : ℕ). leb t s.greatest) places.times n ≡ true))
  unfolding place_at
  fit_apart e = (
    pass_all _ _ n (λ k h. both (le-leb _ _ (each-fit e k h).position-low) (le-leb _ _ (each-fit e k h).position-high)),
    (
      pass_all _ _ n (λ k h. both (le-leb _ _ (each-fit e k h).number-low) (le-leb _ _ (each-fit e k h).number-high)),
      pass_all _ _ n (λ k h. le-leb _ _ (each-fit e k h).time-high),
    ),
  )

  -- if they do, the places are fit
  fit-joined : first_pass (within 1 s.arrived) places.positions n ≡ true → first_pass (within 1 s.sent) places.numbers n ≡ true
      → first_pass (λ (t : ℕ). leb t s.greatest) places.times n ≡ true → every (map (jump_fit s) (places_from places 0 n)) ≡ true
  unfolding place_at
  fit-joined a b d =
      all_pass places (jump_fit s) n 0
      (λ k h. let q : 0 + k ≡ k = omega arith in rw q (jump_passes s (place_at places k) (record {
        position-low = (within-true _ _ _ (pass-at _ _ n k a h)).0;
        position-high = (within-true _ _ _ (pass-at _ _ n k a h)).1;
        number-low = (within-true _ _ _ (pass-at _ _ n k b h)).0;
        number-high = (within-true _ _ _ (pass-at _ _ n k b h)).1;
        time-high = leb-true _ _ (pass-at _ _ n k d h);
      })))

  -- places with a position that fails are not fit
  pub positions-unfit : first_pass (within 1 s.arrived) places.positions n ≡ false → false ≡ places_fit s places
  unfolding kept_of
  positions-unfit e = places-false _ _ (λ h. clash (fit_apart h.jumps-fit).0 e)

  -- nor are those with a number that fails
  pub numbers-unfit : first_pass (within 1 s.sent) places.numbers n ≡ false → false ≡ places_fit s places
  unfolding kept_of
  numbers-unfit e = places-false _ _ (λ h. clash (fit_apart h.jumps-fit).1.0 e)

  -- where all else is fit, the times decide
  pub times-decide : s.kept ≤ window_places → s.dropped ≤ s.sent → first_pass (within 1 s.arrived) places.positions n ≡ true
      → first_pass (within 1 s.sent) places.numbers n ≡ true → (b : Bool)
      → b ≡ first_pass (λ (t : ℕ). leb t s.greatest) places.times n
      → b ≡ places_fit s places
  unfolding kept_of
  times-decide k d a m true e =
      sym (places-pass _ _ (record { kept_high = k; jumps-fit = fit-joined a m (sym e); dropped-high = d }))
  times-decide k d a m false e = places-false _ _ (λ h. clash (fit_apart h.jumps-fit).1.1 (sym e))
