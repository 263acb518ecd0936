-- The number found is the full number and the only one, over any range r that is even and not 0. A number n with what it lacks to the next
-- multiple of the range adds nothing to the low bits (`full-turn`). So a number that keeps its distance is just as far below the last such
-- number as the number found is (`near-found`); and the number found has the low bits x and keeps the distance (`within-full`). The code
-- goes up from the greatest less half the range; both ways together make the range less 1 (`up-down`), so it finds the same (`up-found`).
-- g is the greatest number accepted, x the short number. Assumes nothing.
use Prim.Native.Nat.{ℕ, zero, suc, ◌+◌, ◌-◌, ◌*◌, ◌^◌, ◌%◌, ◌/◌, ◌≤◌, ◌<◌}
use native.Mathlib.Nat.{mod-lt, mod-eq_of_lt, mod-add-mod, add-mod_right, add-mul-mod_self_right, div-add-mod', two-pow-succ}
use native.Mathlib.Omega.{arith}
use mathlib.Core.Bool.{Bool, true, false, cond}
use mathlib.Core.Path.{◌≡◌, refl, sym, ap, ◌∙◌}
use borrow.Author.Tests.{lt-ltb, ltb-true, ltb-false}
use lib.Dec.{ltb}
use Rattle.shortnumbers.specs.Number.{range_of, short_of, Near, FullNumber, number_found, ExactNumber}

-- a range: twice a number that is not 0
pub record Even (r : ℕ) : Type 0 where
  pub least : 2 ≤ r
  pub even : r ≡ r / 2 + r / 2

-- that of w bits is one
pub even-width : (w : ℕ) → 1 ≤ w → Even (range_of w)
even-width w h =
    let p : 1 ≤ 2 ^ (w - 1) = power (w - 1) in
    let k : suc (w - 1) ≡ w = omega arith in
    let e : 2 ^ w ≡ 2 ^ suc (w - 1) = ap (λ (x : ℕ). 2 ^ x) (sym k) in
    let f = two-pow-succ (w - 1) in
    record { least = omega arith; even = omega arith }
  where
    power : (n : ℕ) → 1 ≤ 2 ^ n
    power zero = omega arith
    power (suc n) = let h = power n in let e = two-pow-succ n in omega arith

-- a number and what it lacks to the next multiple of the range add nothing to the low bits
full-turn : (r : ℕ) → 0 < r → (y g : ℕ) → (y + (g + (r - g % r))) % r ≡ y % r
full-turn r pos y g =
    let b = mod-lt g pos in
    let d = div-add-mod' g r in
    let e : y + (g + (r - g % r)) ≡ y + (g / r * r) + r = omega arith in
    ap (λ (n : ℕ). n % r) e ∙ add-mod_right (y + g / r * r) r ∙ add-mul-mod_self_right y (g / r) r

module _ (r : ℕ) (range : Even r) where
  positive : 0 < r
  positive = omega (arith, range.least)

  -- the last number that keeps its distance, and how far below it the number found lies
  abbrev top : ℕ → ℕ
  top g = g + r / 2 - 1

  abbrev down : (g x : ℕ) → ℕ
  down g x = (top g + (r - x)) % r

  -- a number at its distance is found
  near-found : (g n : ℕ) → Near r g n → n ≡ number_found r g (short_of r n)
  unfolding number_found
  near-found g n near =
      let b : n % r < r = mod-lt n positive in
      let lo = near.from in
      let hi = near.below in
      let ev = range.even in
      let d : ℕ = top g - n in
      let e : top g + (r - n % r) ≡ d + (n + (r - n % r)) = omega arith in
      let m : down g (n % r) ≡ d = ap (λ (y : ℕ). y % r) e ∙ full-turn r positive d n ∙ mod-eq_of_lt (omega arith) in
      rw (lt-ltb (n % r) r b, m) (omega arith)

  -- so any full number is
  pub only : (g x n : ℕ) → FullNumber r g x n → n ≡ number_found r g x
  only g x n f = near-found g n f.near ∙ ap (number_found r g) f.bits

  -- the number found of a short number within its width
  within-full : (g x : ℕ) → x < r → 1 ≤ top g - down g x → FullNumber r g x (top g - down g x)
  within-full g x b p =
      let v : down g x < r = mod-lt (top g + (r - x)) positive in
      let ev = range.even in
      let n : ℕ = top g - down g x in
      let q : ℕ = (top g + (r - x)) / r in
      let d : q * r + down g x ≡ top g + (r - x) = div-add-mod' (top g + (r - x)) r in
      let e : n + r ≡ x + q * r = omega arith in
      let m : n % r ≡ x = sym (add-mod_right n r) ∙ ap (λ (y : ℕ). y % r) e ∙ add-mul-mod_self_right x q r ∙ mod-eq_of_lt b in
      record { bits = m; near = record { from = omega arith; below = omega arith } }

  -- a number found that is a packet's is the full number
  full : (g x : ℕ) → 1 ≤ number_found r g x → FullNumber r g x (number_found r g x)
  unfolding number_found
  full g x = go (ltb x r) refl
    where
      go : (t : Bool) → ltb x r ≡ t → 1 ≤ cond t (top g - down g x) 0 → FullNumber r g x (cond t (top g - down g x) 0)
      go true e p = within-full g x (ltb-true x r e) p
      go false e p = absurd (omega arith)

  pub exact : ExactNumber r
  exact = record { full = full; only = only }

  -- ---- the code's way to it: up from the greatest less half the range

  abbrev lack : ℕ → ℕ
  lack g = r - g % r

  abbrev up : (g x : ℕ) → ℕ
  up g x = (x + (r / 2 + lack g)) % r

  -- of two remainders
  sum_of : (u v : ℕ) → u < r → v < r → (u + v) % r ≡ r - 1 → u + v ≡ r - 1
  sum_of u v a b m = go (ltb (u + v) r) refl
    where
      go : (t : Bool) → ltb (u + v) r ≡ t → u + v ≡ r - 1
      go true e = sym (mod-eq_of_lt (ltb-true (u + v) r e)) ∙ m
      go false e =
          let l : r ≤ u + v = ltb-false (u + v) r e in
          let w : ℕ = u + v - r in
          let i : u + v ≡ w + r = omega arith in
          let k : (u + v) % r ≡ w = ap (λ (y : ℕ). y % r) i ∙ add-mod_right w r ∙ mod-eq_of_lt (omega arith) in
          absurd (omega arith)

  -- the way up and the way down make the range less 1
  up-down : (g x : ℕ) → x < r → up g x + down g x ≡ r - 1
  up-down g x b =
      let ev = range.even in
      let least : 2 ≤ r = range.least in
      let a : ℕ = x + (r / 2 + lack g) in
      let t : ℕ = top g + (r - x) in
      let c : a + t % r ≡ t % r + a = omega arith in
      let e : t + a ≡ r - 1 + r + (g + lack g) = omega arith in
      let m : (a % r + t % r) % r ≡ r - 1 =
      mod-add-mod a r (t % r) ∙ ap (λ (y : ℕ). y % r) c ∙ mod-add-mod t r a ∙ ap (λ (y : ℕ). y % r) e
      ∙ full-turn r positive (r - 1 + r) g ∙ add-mod_right (r - 1) r ∙ mod-eq_of_lt (omega arith) in
      sum_of (a % r) (t % r) (mod-lt a positive) (mod-lt t positive) m

  pub up-found : (g x : ℕ) → x < r → g + up g x - r / 2 ≡ number_found r g x
  unfolding number_found
  up-found g x b =
      let ev = range.even in
      let least : 2 ≤ r = range.least in
      let s : up g x + down g x ≡ r - 1 = up-down g x b in
      rw (lt-ltb x r b) (omega arith)
