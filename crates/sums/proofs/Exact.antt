-- The sum that a tree returns is the sum of the values. Each index holds its shares of the added values, modulo 2^32 (`place-shares`, by
-- induction on the additions). Of one value, the share of index i and what belongs to the numbers up to `rest i` are together what belongs
-- to the numbers up to i (`one-part`, by where its number lies); so too of all values (`shares-part`). Hence the indices i, `rest i` and
-- so on hold together the values at the numbers from 1 to i (`parts-values`, by induction on the fuel). Here a is an addition, a pair of
-- number and value, and vs are additions. Assumes nothing.
use Rattle.std.proofs.Common.{◌≡◌, ℕ, zero, suc, ◌+◌, ◌%◌, ◌^◌, ◌<◌, ◌≤◌, Bool, true, false, cond, ◌&&◌, ltb, leb, List, [], ◌∷◌, length, get_or, refl, ◌∙◌, arith, ltb-false, ltb-true, lt-ltb, leb-false, leb-true}
use lib.ListN.{length-replicate, get_or-replicate}
use Rattle.sums.specs.Tree.{rest, share, parts_to, sum_to, Holds, nothing, more, values_to, ExactSum}
use Rattle.sums.proofs.Lowest.{rest-low}

-- the shares that index i has of the values
abbrev shares_of : ℕ → List (ℕ × ℕ) → ℕ
shares_of i [] = 0
shares_of i (a ∷ vs) = share a.0 a.1 i + shares_of i vs

-- they stand there
place-shares : {vs : List (ℕ × ℕ)} {tree : List ℕ} → Holds vs tree → (i : ℕ) → i < length tree → get_or tree i 0 ≡ shares_of i vs % 2 ^ 32
place-shares (nothing places) i h = get_or-replicate {A = ℕ} places i 0 0 (omega (arith, length-replicate {A = ℕ} places 0)) ∙ omega arith
place-shares (more {a} {vs} {old} {new} d k) i h =
    let inside : i < length old = omega (arith, d.places) in
    let before = place-shares k i inside in
    omega (arith, d.at i inside)

-- of one value
one-part : (number value i : ℕ) → 1 ≤ i
    → share number value i + cond (leb 1 number && leb number (rest i)) value 0 ≡ cond (leb 1 number && leb number i) value 0
unfolding share
one-part number value i low = go (ltb (rest i) number) refl (leb 1 number) refl (leb number i) refl (leb number (rest i)) refl
  where
    go : (t : Bool) → ltb (rest i) number ≡ t → (u : Bool) → leb 1 number ≡ u → (v : Bool) → leb number i ≡ v → (w : Bool)
        → leb number (rest i) ≡ w
        → cond t (cond v value 0) 0 + cond (u && w) value 0 ≡ cond (u && v) value 0
    go true e true f true g true h = absurd (omega (arith, ltb-true (rest i) number e, leb-true number (rest i) h))
    go true e true f true g false h = omega arith
    go true e true f false g true h = absurd (omega (arith, ltb-true (rest i) number e, leb-true number (rest i) h))
    go true e true f false g false h = refl
    go true e false f v g w h = absurd (omega (arith, ltb-true (rest i) number e, leb-false 1 number f))
    go false e true f true g true h = omega arith
    go false e true f true g false h = absurd (omega (arith, ltb-false (rest i) number e, leb-false number (rest i) h))
    go false e true f false g true h = absurd (omega (arith, leb-true number (rest i) h, leb-false number i g, rest-low i))
    go false e true f false g false h = refl
    go false e false f v g w h = refl

-- of all values
shares-part : (i : ℕ) → 1 ≤ i → (vs : List (ℕ × ℕ)) → shares_of i vs + values_to (rest i) vs ≡ values_to i vs
unfolding values_to
shares-part i low [] = omega arith
shares-part i low (a ∷ vs) = omega (arith, one-part a.0 a.1 i low, shares-part i low vs)

-- none is at a number from 1 to 0
values-none : (vs : List (ℕ × ℕ)) → values_to 0 vs ≡ 0
unfolding values_to
values-none [] = refl
values-none (a ∷ vs) = omega (arith, none (leb 1 a.0) refl (leb a.0 0) refl, values-none vs)
  where
    none : (t : Bool) → leb 1 a.0 ≡ t → (u : Bool) → leb a.0 0 ≡ u → cond (t && u) a.1 0 ≡ 0
    none true e true f = absurd (omega (arith, leb-true 1 a.0 e, leb-true a.0 0 f))
    none true e false f = refl
    none false e u f = refl

-- the indices together
parts-values : {vs : List (ℕ × ℕ)} {tree : List ℕ} → Holds vs tree → (fuel i : ℕ) → i ≤ fuel → i < length tree
    → parts_to fuel tree i % 2 ^ 32 ≡ values_to i vs % 2 ^ 32
unfolding parts_to
parts-values {vs} k zero i a b = let z : i ≡ 0 = omega arith in rw (z, values-none vs)
parts-values {vs} k (suc fuel) zero a b = rw (values-none vs)
parts-values {vs} k (suc fuel) (suc i) a b =
    let low = rest-low (suc i) in
    let rests = parts-values k fuel (rest (suc i)) (omega arith) (omega arith) in
    omega (arith, place-shares k (suc i) b, shares-part (suc i) (omega arith) vs)

pub sum-exact : (tree : List ℕ) (number : ℕ) {sum : ℕ} → sum ≡ sum_to tree number → ExactSum tree number sum
unfolding sum_to
sum-exact tree number e vs k inside =
    e ∙ rw (lt-ltb number (length tree) inside) (parts-values k number number (omega arith) inside)
