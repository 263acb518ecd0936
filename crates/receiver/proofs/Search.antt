-- The kept places, walked one by one: those from `at` on are the one at `at` and those after it (`places-cons`). So if all pass a test,
-- each does (`all-at`), by induction on how many; and a search that passed k places with no number above s goes on after them
-- (`search-from`), by induction on k. Hence the place that the code found, with no greater number before it, is where the definition's
-- search ends (`search-found`), and if it passed all places the search finds none (`search-none`). n and kept are how many places are
-- kept. Assumes nothing.
use Prim.Native.Nat.{ℕ, zero, suc, ◌+◌, ◌-◌, ◌<◌, ◌≤◌}
use mathlib.Core.Bool.{Bool, true, false}
use mathlib.Core.List.{[], ◌∷◌, map}
use mathlib.Core.Option.{none, some}
use mathlib.Core.Path.{◌≡◌, ◌∙◌}
use native.Mathlib.Nat.{sub-zero}
use native.Mathlib.Numerals.{add-one}
use native.Mathlib.Omega.{arith}
use lib.Dec.{ltb}
use lib.ListN.{get_or}
use borrow.Author.Tests.{lt-ltb}
use Rattle.rfc4737.specs.Order.{FirstArrival}
use Rattle.rfc4737.specs.Extent.{first_above}
use Rattle.receiver.specs.declared.Places.{Places}
use Rattle.receiver.specs.Fit.{every}
use Rattle.receiver.specs.Kept.{place_at, places_from}
use Rattle.receiver.specs.Private.{FirstAbove}
use Rattle.receiver.proofs.Fits.{every_true}

-- the places from one on, with that one first
places-cons : (places : Places) (n at : ℕ) → at < n → places_from places at (n - at) ≡ place_at places at
    ∷ places_from places (at + 1) (n - (at + 1))
unfolding places_from
places-cons places n at h =
    let e : n - at ≡ suc (n - (at + 1)) = omega arith in
    rw (e, add-one at)

-- no places are left past the last
places-end : (places : Places) (n at : ℕ) → n ≤ at → places_from places at (n - at) ≡ []
unfolding places_from
places-end places n at h =
    let e : n - at ≡ zero = omega arith in
    rw e

module _ (places : Places) (f : FirstArrival → Bool) where
  -- if all pass, each does
  pub all-at : (n at k : ℕ) → every (map f (places_from places at n)) ≡ true → k < n → f (place_at places (at + k)) ≡ true
  unfolding places_from
  all-at zero at k e h = absurd (omega arith)
  all-at (suc n) at zero e h =
      let q : at + zero ≡ at = omega arith in
      rw q (every_true (f (place_at places at)) (map f (places_from places (suc at) n)) e).0
  all-at (suc n) at (suc k) e h =
      let q : at + suc k ≡ suc at + k = omega arith in
      rw q (all-at n (suc at) k (every_true (f (place_at places at)) (map f (places_from places (suc at) n)) e).1 (omega arith))

module _ (places : Places) (s : ℕ) where
  -- a search that passed places with no greater number goes on after them
  search-from : (n k : ℕ) → k ≤ n → ((i : ℕ) → i < k → ltb s (get_or places.numbers i 0) ≡ false)
      → first_above s (places_from places 0 n) ≡ first_above s (places_from places k (n - k))
  unfolding first_above place_at
  search-from n zero h p = rw sub-zero
  search-from n (suc k) h p =
      search-from n k (omega arith) (λ i q. p i (omega arith))
      ∙ rw (places-cons places n k (omega arith), p k (omega arith), add-one k)

  -- what the search finds, from the place that the code finds
  pub search-found : (kept place : ℕ) → place < kept → FirstAbove places.numbers kept s place
      → first_above s (places_from places 0 kept) ≡ some (place_at places place)
  unfolding first_above place_at
  search-found kept place h p =
      search-from kept place (omega arith) p.before
      ∙ rw (places-cons places kept place h, lt-ltb s (get_or places.numbers place 0) (p.above h))

  -- the search finds nothing if the code passed all places
  pub search-none : (kept place : ℕ) → kept ≤ place → FirstAbove places.numbers kept s place
      → first_above s (places_from places 0 kept) ≡ none
  unfolding first_above
  search-none kept place h p =
      search-from kept kept (omega arith) (λ i q. p.before i (omega arith))
      ∙ rw (places-end places kept kept (omega arith))
