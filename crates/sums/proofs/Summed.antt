-- A tree that holds the sums of values, where f i is the sum of the values at the numbers above i. Index i holds f (rest i) - f i, so the
-- indices i, `rest i` and so on hold together f 0 - f i. Assumes nothing.
use Rattle.std.proofs.Common.{◌≡◌, ℕ, zero, suc, ◌+◌, ◌%◌, ◌^◌, ◌<◌, ◌≤◌, cond, ltb, List, length, get_or, replicate, refl, ap, arith, lt-ltb}
use lib.ListN.{length-replicate, get_or-replicate}
use Rattle.sums.specs.Tree.{rest, share, Added, parts_to, sum_to, Summed}
use Rattle.sums.proofs.Lowest.{rest-low}
use Rattle.sums.proofs.PartlyAdded.{share-sum}

-- more fuel than i changes nothing
parts-enough : (fuel fuel' : ℕ) (tree : List ℕ) (i : ℕ) → i ≤ fuel → i ≤ fuel' → parts_to fuel tree i ≡ parts_to fuel' tree i
unfolding parts_to
parts-enough zero zero tree i a b = refl
parts-enough zero (suc g) tree zero a b = refl
parts-enough zero (suc g) tree (suc i) a b = absurd (omega arith)
parts-enough (suc f) zero tree zero a b = refl
parts-enough (suc f) zero tree (suc i) a b = absurd (omega arith)
parts-enough (suc f) (suc g) tree zero a b = refl
parts-enough (suc f) (suc g) tree (suc i) a b =
    ap (λ (n : ℕ). get_or tree (suc i) 0 + n)
    (parts-enough f g tree (rest (suc i)) (omega (arith, rest-low (suc i))) (omega (arith, rest-low (suc i))))

-- the first of the indices, and those after it
pub parts_first : (tree : List ℕ) (i : ℕ) → 1 ≤ i → parts_to i tree i ≡ get_or tree i 0 + parts_to (rest i) tree (rest i)
unfolding parts_to
parts_first tree zero h = absurd (omega arith)
parts_first tree (suc i) h =
    ap (λ (n : ℕ). get_or tree (suc i) 0 + n) (parts-enough i (rest (suc i)) tree (rest (suc i)) (omega (arith, rest-low (suc i)))
    (omega arith))

-- there is none after index 0
pub parts_none : (tree : List ℕ) → parts_to 0 tree 0 ≡ 0
unfolding parts_to
parts_none tree = refl

module _ (f : ℕ → ℕ) where
  -- a tree of zeros holds no values
  pub summed-none : (n : ℕ) → ((i : ℕ) → f i ≡ 0) → Summed f (replicate n 0)
  summed-none n z =
      record { at = λ i a b. omega (arith, get_or-replicate {A = ℕ} n i 0 0 (omega (arith, length-replicate {A = ℕ} n 0)), z i, z (rest i)) }

  module _ (tree : List ℕ) (s : Summed f tree) where
    -- the indices together
    parts-sum : (fuel i : ℕ) → i ≤ fuel → i < length tree → parts_to fuel tree i + f i ≡ f 0
    unfolding parts_to
    parts-sum zero i a b = let z : i ≡ 0 = omega arith in rw z (omega arith)
    parts-sum (suc fuel) zero a b = omega arith
    parts-sum (suc fuel) (suc i) a b =
        omega (
          arith,
          parts-sum fuel (rest (suc i)) (omega (arith, rest-low (suc i))) (omega (arith, rest-low (suc i))),
          s.at (suc i) (omega arith) b,
        )

    -- what is asked for, where all values together fit
    pub sum-summed : (number : ℕ) → number < length tree → f 0 < 2 ^ 32 → sum_to tree number + f number ≡ f 0
    unfolding sum_to
    sum-summed number inside fits =
        let p = parts-sum number number (omega arith) inside in
        let e : parts_to number tree number % 2 ^ 32 ≡ parts_to number tree number = omega arith in
        rw (lt-ltb number (length tree) inside, e) p

    -- a value more at a number, where it fits
    pub summed-more : (number value : ℕ) (new : List ℕ) (g : ℕ → ℕ) → Added number value tree new
        → ((i : ℕ) → g i ≡ f i + cond (ltb i number) value 0) → ((i : ℕ) → g i < 2 ^ 32) → Summed g new
    summed-more number value new g h more fits =
        record {
          at = λ i low high.
              let inside : i < length tree = omega (arith, h.places) in
              let old = s.at i low inside in
              let taken = share-sum number value i in
              let small : get_or tree i 0 + share number value i < 2 ^ 32 = omega (arith, more i, more (rest i), fits (rest i)) in
              omega (arith, h.at i inside, more i, more (rest i));
        }
