-- The byte offset from the front of the first arrivals (`offset-front`), and what it is at most: 0 of a packet in order, since all
-- numbers before it are below NextExp (`below_next`, `offset-in-order`). With sizes of 1 it counts the greater numbers, all of which
-- stand from the discontinuity on, so that the extent is no less (`extent-counts`).
-- Here fs are first arrivals, s a number, z the size of each packet, l arrivals, `before` those before them. Assumes nothing.
use mathlib.Core.Path.{◌≡◌, refl, subst, ◌∙◌}
use mathlib.Core.Bool.{Bool, true, false, cond}
use mathlib.Core.Option.{some}
use mathlib.Core.List.{List, [], ◌∷◌, ◌++◌, foldl}
use Prim.Native.Nat.{ℕ, suc, ◌+◌, ◌*◌, ◌≤◌, ◌<◌}
use native.Mathlib.Omega.{arith}
use lib.Dec.{ltb}
use lib.ListN.{length, length-append}
use borrow.Author.Tests.{le-ltb}
use Rattle.rfc4737.specs.declared.Arrival.{Arrival}
use Rattle.rfc4737.specs.Arrivals.{each, each_after}
use Rattle.rfc4737.specs.Order.{next_exp, place_after, placed}
use Rattle.rfc4737.specs.Extent.{first_above, discontinuity, extent_from, byte_offset}
use Rattle.rfc4737.proofs.Lists.{snoc-ind, All, all-weaken, all_append}
use Rattle.rfc4737.proofs.Folds.{next_more, offset-le}
use Rattle.rfc4737.proofs.Jumps.{next_after-above}

-- all numbers are below NextExp
pub below_next : (fs : List Arrival) → All (λ (b : Arrival). b.number < next_exp fs) fs
below_next = snoc-ind (λ (fs : List Arrival). All (λ (b : Arrival). b.number < next_exp fs) fs) more tt
  where
    more : (fs : List Arrival) (a : Arrival) → All (λ (b : Arrival). b.number < next_exp fs) fs
        → All (λ (b : Arrival). b.number < next_exp (fs ++ (a ∷ []))) (fs ++ (a ∷ []))
    more fs a h =
        let k = next_after-above (next_exp fs) a.number in
        rw next_more
        (all_append _ fs (a ∷ []) (all-weaken (λ (b : Arrival) (q : b.number < next_exp fs). omega (arith, q, k)) fs h) (k.1, tt))

-- ---- the byte offset from the front

offset-from : (size : ℕ → ℕ) (s : ℕ) (l : List Arrival) (n : ℕ)
    → foldl (λ (n : ℕ) (a : Arrival). n + cond (ltb s a.number) (size a.number) 0) n l ≡ n + byte_offset size l s
unfolding byte_offset
offset-from size s [] n = omega arith
offset-from size s (a ∷ l) n =
    offset-from size s l (n + c) ∙ omega (arith, offset-from size s l (0 + c))
  where
    c : ℕ
    c = cond (ltb s a.number) (size a.number) 0

pub offset-front : (size : ℕ → ℕ) (s : ℕ) (a : Arrival) (l : List Arrival)
    → byte_offset size (a ∷ l) s ≡ cond (ltb s a.number) (size a.number) 0 + byte_offset size l s
unfolding byte_offset
offset-front size s a l = offset-from size s l (0 + cond (ltb s a.number) (size a.number) 0) ∙ omega arith

-- where no number is above s
pub offset-none : (z : ℕ → ℕ) (s : ℕ) (l : List Arrival) → All (λ (b : Arrival). b.number ≤ s) l → byte_offset z l s ≡ 0
unfolding byte_offset
offset-none z s [] h = refl
offset-none z s (b ∷ l) h = offset-front z s b l ∙ rw (le-ltb s b.number h.0, offset-none z s l h.1) refl

pub offset-in-order : (z : ℕ → ℕ) (s : ℕ) (fs : List Arrival) → next_exp fs ≤ s → byte_offset z fs s ≡ 0
offset-in-order z s fs h =
    offset-none z s fs (all-weaken {P = λ (b : Arrival). b.number < next_exp fs} {Q = λ (b : Arrival). b.number ≤ s}
    (λ b q. omega (arith, q, h)) fs (below_next fs))

-- the extent counts every position from the discontinuity on
extent-after : (s : ℕ) (before l : List Arrival)
    → byte_offset (λ _. 1) l s ≤ extent_from (length before + length l + 1) (first_above s (each_after place_after before l))
unfolding byte_offset first_above each_after extent_from
extent-after s before [] = omega arith
extent-after s before (b ∷ l) =
    rw (offset-front (λ _. 1) s b l)
    (go (subst (λ (n : ℕ). byte_offset (λ _. 1) l s ≤ extent_from n (first_above s (each_after place_after (before ++ (b ∷ [])) l))) same_place
    (extent-after s (before ++ (b ∷ [])) l)) (ltb s b.number))
  where
    same_place : length (before ++ (b ∷ [])) + length l + 1 ≡ length before + suc (length l) + 1
    same_place = rw (length-append before (b ∷ [])) (omega arith)

    few : byte_offset (λ _. 1) l s ≤ 1 * length l
    few = offset-le (λ _. 1) 1 (λ _. omega arith) l s

    go : byte_offset (λ _. 1) l s
        ≤ extent_from (length before + suc (length l) + 1) (first_above s (each_after place_after (before ++ (b ∷ [])) l)) → (c : Bool)
        → cond c 1 0 + byte_offset (λ _. 1) l s
        ≤ extent_from (length before + suc (length l) + 1) (cond c (some (place_after before b))
        (first_above s (each_after place_after (before ++ (b ∷ [])) l)))
    go k true = omega (arith, few)
    go k false = omega (arith, k)

pub extent-counts : (s : ℕ) (fs : List Arrival) → byte_offset (λ _. 1) fs s ≤ extent_from (length fs + 1) (discontinuity fs s)
unfolding discontinuity placed each
extent-counts s fs =
    let e : 0 + length fs + 1 ≡ length fs + 1 = omega arith in
    subst (λ (n : ℕ). byte_offset (λ _. 1) fs s ≤ extent_from n (first_above s (each_after place_after [] fs))) e (extent-after s [] fs)
