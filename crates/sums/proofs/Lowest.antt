-- Laws of `rest i`, which is i with its lowest set bit cleared. The rest of h * 2 + 1 is h * 2, and the rest of h * 2 is twice the rest of
-- h, so all goes by induction on halves (`half-ind`). The index after i is i + (i - rest i). For an odd i it is i + 1, and no index is
-- between. For an even i an index j between has a rest of at least i: an odd j has j - 1, and an even j goes by halves (`rest-between`).
-- The next index has a rest of at most `rest i`, so it holds all that i holds (`rest-next`). Assumes nothing.
use Rattle.std.proofs.Common.{◌≡◌, ℕ, ◌+◌, ◌-◌, ◌*◌, ◌/◌, ◌%◌, ◌<◌, ◌≤◌, Bool, true, false, eqb, refl, ap, ◌∙◌, arith, eqb-true}
use native.Mathlib.Nat.{zero-min}
use lib.Arith.{bin_ind}
use lib.Bits.{and_step, and_self, and_le_r}
use borrow.Author.Tests.{eqb-false}
use Rattle.sums.specs.Tree.{rest}

-- it is smaller
pub rest-low : (i : ℕ) → rest i ≤ i - 1
unfolding rest
rest-low i = and_le_r i (i - 1)

-- of an odd number, and of an even one
rest-odd : (h : ℕ) → rest (h * 2 + 1) ≡ h * 2
unfolding rest
rest-odd h =
    let e : (h * 2 + 1) / 2 ≡ h = omega arith in
    let f : (h * 2 + 1 - 1) / 2 ≡ h = omega arith in
    let k : (h * 2 + 1 - 1) % 2 ≡ 0 = omega arith in
    let l : (h * 2 + 1) % 2 ≡ 1 = omega arith in
    and_step (h * 2 + 1) (h * 2 + 1 - 1) ∙ rw (e, f, k, l, and_self h) (omega arith)

rest-even : (h : ℕ) → rest (h * 2) ≡ rest h * 2
unfolding rest
rest-even h =
    let e : h * 2 / 2 ≡ h = omega arith in
    let f : (h * 2 - 1) / 2 ≡ h - 1 = omega arith in
    let k : h * 2 % 2 ≡ 0 = omega arith in
    and_step (h * 2) (h * 2 - 1) ∙ rw (e, f, k, zero-min ((h * 2 - 1) % 2)) (omega arith)

-- what holds of an even and an odd number where it holds of its half holds of all
module _ (P : ℕ → Type 0) (none : P 0) (even : (h i : ℕ) → i ≡ h * 2 → rest i ≡ rest h * 2 → P h → P i)
    (odd : (h i : ℕ) → i ≡ h * 2 + 1 → rest i ≡ h * 2 → P h → P i) where
  half-ind : (i : ℕ) → P i
  half-ind = bin_ind P none step
    where
      step : (i : ℕ) → P (i / 2) → P i
      step i k = go (eqb (i % 2) 0) refl
        where
          go : (t : Bool) → eqb (i % 2) 0 ≡ t → P i
          go true e = let q : i ≡ i / 2 * 2 = omega (arith, eqb-true (i % 2) 0 e) in even (i / 2) i q (ap rest q ∙ rest-even (i / 2)) k
          go false e = let q : i ≡ i / 2 * 2 + 1 = omega (arith, eqb-false (i % 2) 0 e) in odd (i / 2) i q (ap rest q ∙ rest-odd (i / 2)) k

-- no index between one and the next holds a number up to the first
pub rest-between : (i j : ℕ) → i < j → j < i + (i - rest i) → i ≤ rest j
rest-between = half-ind (λ (i : ℕ). (j : ℕ) → i < j → j < i + (i - rest i) → i ≤ rest j) (λ j a b. absurd (omega arith)) even odd
  where
    even : (h i : ℕ) → i ≡ h * 2 → rest i ≡ rest h * 2 → ((j : ℕ) → h < j → j < h + (h - rest h) → h ≤ rest j)
        → (j : ℕ) → i < j → j < i + (i - rest i) → i ≤ rest j
    even h i e r k j = half-ind (λ (j : ℕ). i < j → j < i + (i - rest i) → i ≤ rest j) (λ a b. absurd (omega arith))
        (λ g j f q w a b. omega (arith, k g (omega arith) (omega arith)))
        (λ g j f q w a b. omega arith)
        j

    odd : (h i : ℕ) → i ≡ h * 2 + 1 → rest i ≡ h * 2 → ((j : ℕ) → h < j → j < h + (h - rest h) → h ≤ rest j)
        → (j : ℕ) → i < j → j < i + (i - rest i) → i ≤ rest j
    odd h i e r k j a b = absurd (omega arith)

-- the next index holds all that one holds
pub rest-next : (i : ℕ) → rest (i + (i - rest i)) ≤ rest i
rest-next = half-ind (λ (i : ℕ). rest (i + (i - rest i)) ≤ rest i) (omega (arith, rest-low (0 + (0 - rest 0)))) even odd
  where
    even : (h i : ℕ) → i ≡ h * 2 → rest i ≡ rest h * 2 → rest (h + (h - rest h)) ≤ rest h → rest (i + (i - rest i)) ≤ rest i
    even h i e r k =
        let q : i + (i - rest i) ≡ (h + (h - rest h)) * 2 = omega arith in
        omega (arith, ap rest q ∙ rest-even (h + (h - rest h)))

    odd : (h i : ℕ) → i ≡ h * 2 + 1 → rest i ≡ h * 2 → rest (h + (h - rest h)) ≤ rest h → rest (i + (i - rest i)) ≤ rest i
    odd h i e r k =
        let q : i + (i - rest i) ≡ (h + 1) * 2 = omega arith in
        omega (arith, ap rest q ∙ rest-even (h + 1), rest-low (h + 1))
