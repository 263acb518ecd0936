-- The first refusal that applies, by whether the first of the list is 0: what it is, and what follows if none applies. A number is not
-- outside two limits exactly if it lies between them, by the outcomes t and u of both tests. r is a refusal, rs are those after it.
-- Assumes nothing.
use Prim.Native.Nat.{ℕ, zero, suc, ◌≤◌, ◌<◌}
use native.Mathlib.Omega.{arith}
use mathlib.Core.Bool.{Bool, true, false, not, ◌&&◌, true≢false}
use mathlib.Core.Path.{◌≡◌, refl, sym}
use mathlib.Core.List.{List, [], ◌∷◌}
use borrow.Author.Tests.{le-leb, leb-true}
use lib.Dec.{leb}
use lib.ListN.{get_or}
use Rattle.rfc4737.specs.Refusals.{outside, refusal_if, first_refusal}

-- none applies: neither the first nor one of the others
pub first-none : (r : ℕ) (rs : List ℕ) → first_refusal (r ∷ rs) ≡ 0 → (r ≡ 0) × (first_refusal rs ≡ 0)
first-none zero rs e = (refl, e)
first-none (suc r) rs e = absurd (omega arith)

-- none applies: each of them is 0
pub each_none : (rs : List ℕ) → first_refusal rs ≡ 0 → (i : ℕ) → get_or rs i 0 ≡ 0
each_none [] e i = refl
each_none (r ∷ rs) e zero = (first-none r rs e).0
each_none (r ∷ rs) e (suc i) = each_none rs (first-none r rs e).1 i

-- the first applies
pub first-due : (r : ℕ) (rs : List ℕ) → 0 < r → first_refusal (r ∷ rs) ≡ r
first-due zero rs h = absurd (omega arith)
first-due (suc r) rs h = refl

-- the first that applies of all is one that was found to apply
pub first-stop : (r : ℕ) (rs : List ℕ) {q : ℕ} → q ≡ first_refusal (r ∷ rs) → (r ≡ 0 → ⊥) → r ≡ q
first-stop zero rs e n = absurd (n refl)
first-stop (suc r) rs e n = sym e

-- the first does not apply
pub first_next : (r : ℕ) (rs : List ℕ) → r ≡ 0 → first_refusal (r ∷ rs) ≡ first_refusal rs
first_next zero rs e = refl
first_next (suc r) rs e = absurd (omega arith)

-- a refusal alone
pub first_one : (r : ℕ) → first_refusal (r ∷ []) ≡ r
first_one zero = refl
first_one (suc r) = refl

-- a refusal does not apply: it is not its case
pub case-none : (b : Bool) (r : ℕ) → 0 < r → refusal_if b r ≡ 0 → b ≡ false
case-none true r h e = absurd (omega arith)
case-none false r h e = refl

-- not outside: between the limits
pub between : (least most n : ℕ) → outside least most n ≡ false → (least ≤ n) × (n ≤ most)
unfolding outside
between least most n e = go (leb least n) (leb n most) refl refl e
  where
    go : (t u : Bool) → leb least n ≡ t → leb n most ≡ u → not (t && u) ≡ false → (least ≤ n) × (n ≤ most)
    go true true p q e = (leb-true _ _ p, leb-true _ _ q)
    go true false p q e = absurd (true≢false e)
    go false u p q e = absurd (true≢false e)

-- a refusal for a number outside its limits does not apply: it lies between them
pub limit-none : (least most n r : ℕ) → 0 < r → refusal_if (outside least most n) r ≡ 0 → (least ≤ n) × (n ≤ most)
limit-none least most n r h e = between least most n (case-none (outside least most n) r h e)

-- between the limits: not outside
pub not-outside : (least most n : ℕ) → least ≤ n → n ≤ most → outside least most n ≡ false
unfolding outside
not-outside least most n h k = simp (le-leb least n h, le-leb n most k)
