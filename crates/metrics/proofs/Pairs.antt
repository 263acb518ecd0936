-- The tree of sums over pairs of packets: packets 2k - 1 and 2k share index k, so the packets above 2k are above index k (`pair-above`).
-- The next first arrival adds its size at its pair (`size-tree-more`). Once all are in the tree, the sum up to s / 2 and the byte offset
-- of 2 (s / 2) add up to the total (`total-sum`). That number is s or the one before it, and if packet s has not arrived both have the
-- same byte offset (`offset-before`, by induction over the first arrivals). So the total less the sum is the byte offset of s
-- (`offset-summed`).
-- Here fs are the first arrivals, p how many of them are in the tree, t their number and total, size gives the payload size of a packet,
-- and s is the packet asked for. Assumes nothing.
use mathlib.Core.Path.{◌≡◌, refl, sym, ap, ◌∙◌}
use mathlib.Core.Bool.{Bool, true, false, cond}
use mathlib.Core.List.{List, [], ◌∷◌, ◌++◌}
use Prim.Native.Nat.{ℕ, ◌+◌, ◌-◌, ◌*◌, ◌/◌, ◌%◌, ◌^◌, ◌≤◌, ◌<◌}
use native.Mathlib.Omega.{arith}
use lib.Dec.{eqb, ltb}
use lib.ListN.{length, take, get_or, replicate}
use lib.Seq.{take_all, length-take-le}
use borrow.Author.Tests.{eqb-true, eqb-false, ltb-true, ltb-false, lt-ltb, le-ltb}
use Rattle.rfc4737.specs.declared.Arrival.{Arrival}
use Rattle.rfc4737.specs.Arrivals.{has}
use Rattle.rfc4737.specs.Extent.{byte_offset}
use Rattle.rfc4737.proofs.Lists.{snoc-ind}
use Rattle.rfc4737.proofs.Arrivals.{take_more}
use Rattle.rfc4737.proofs.Folds.{offset-more, offset-le}
use Rattle.rfc4737.proofs.Jumps.{has-more-false}
use Rattle.rfc4737.specs.Judge.{sent_most}
use Rattle.sums.specs.Tree.{Added, sum_to}
use Rattle.sums.proofs.Summed.{summed-none, summed-more, sum-summed}
use Rattle.sample.specs.Places.{no_arrival}
use Rattle.metrics.specs.Private.Engine.{SizeTree}
use Rattle.metrics.specs.declared.engine.byte_offset.PairTree.{PairTree}

-- a packet is above number 2k if its pair is above k
pair-above : (k s : ℕ) → ltb (k * 2) s ≡ ltb k ((s + 1) / 2)
pair-above k s = go (ltb (k * 2) s) refl
  where
    go : (t : Bool) → ltb (k * 2) s ≡ t → t ≡ ltb k ((s + 1) / 2)
    go true e = sym (lt-ltb k ((s + 1) / 2) (omega (arith, ltb-true (k * 2) s e)))
    go false e = sym (le-ltb k ((s + 1) / 2) (omega (arith, ltb-false (k * 2) s e)))

-- of a packet that has not arrived, and the number before it, the byte offset is the same
module _ (size : ℕ → ℕ) (s : ℕ) (low : 1 ≤ s) where
  offset-before : (fs : List Arrival) → has s fs ≡ false → byte_offset size fs (s - 1) ≡ byte_offset size fs s
  unfolding byte_offset
  offset-before = snoc-ind (λ (fs : List Arrival). has s fs ≡ false → byte_offset size fs (s - 1) ≡ byte_offset size fs s) more (λ e. refl)
    where
      same : (n : ℕ) → (n ≡ s → ⊥) → ltb (s - 1) n ≡ ltb s n
      same n d = go (ltb s n) refl
        where
          go : (t : Bool) → ltb s n ≡ t → ltb (s - 1) n ≡ t
          go true e = lt-ltb (s - 1) n (omega (arith, ltb-true s n e))
          go false e = le-ltb (s - 1) n (omega (arith, ltb-false s n e, d))

      more : (fs : List Arrival) (a : Arrival) → (has s fs ≡ false → byte_offset size fs (s - 1) ≡ byte_offset size fs s)
          → has s (fs ++ (a ∷ [])) ≡ false
          → byte_offset size (fs ++ (a ∷ [])) (s - 1) ≡ byte_offset size (fs ++ (a ∷ [])) s
      more fs a h e =
          let k = has-more-false s fs a e in
          offset-more size fs (s - 1) a ∙ rw (same a.number k.1, h k.0) (sym (offset-more size fs s a))

  -- so it is that of its pair
  offset-pair : (fs : List Arrival) → has s fs ≡ false → byte_offset size fs (s / 2 * 2) ≡ byte_offset size fs s
  offset-pair fs new = go (eqb (s % 2) 0) refl
    where
      go : (t : Bool) → eqb (s % 2) 0 ≡ t → byte_offset size fs (s / 2 * 2) ≡ byte_offset size fs s
      go true e = ap (byte_offset size fs) (omega (arith, eqb-true (s % 2) 0 e))
      go false e = ap (byte_offset size fs) (omega (arith, eqb-false (s % 2) 0 e)) ∙ offset-before fs new

-- a tree of no first arrivals
pub size-tree-none : (size : ℕ → ℕ) (fs : List Arrival) → SizeTree size fs (record { sums = replicate 2049 0; filled = 0; total = 0 })
unfolding byte_offset
size-tree-none size fs =
    record { places = refl; some = omega arith; summed = summed-none _ 2049 (λ i. refl); whole = refl }

module _ (size : ℕ → ℕ) (small : (s : ℕ) → size s ≤ 65535) (fs : List Arrival) (few : length fs ≤ sent_most) where
  -- the sizes of some first arrivals together are small
  sizes-few : (p s : ℕ) → p ≤ length fs → byte_offset size (take p fs) s ≤ 65535 * p
  sizes-few p s h = omega (arith, offset-le size 65535 small (take p fs) s, length-take-le p fs h)

  -- of those in the tree
  pub total-small : (t : PairTree) → SizeTree size fs t → t.total ≤ 65535 * t.filled
  total-small t k = omega (arith, k.whole, sizes-few t.filled 0 k.some)

  -- the tree after the next first arrival
  pub size-tree-more : (p number value total : ℕ) (tree tree' : List ℕ) → p < length fs → number ≡ (get_or fs p no_arrival).number → 1 ≤ number
      → value ≡ size number
      → SizeTree size fs (record { sums = tree; filled = p; total = total }) → Added ((number + 1) / 2) value tree tree'
      → SizeTree size fs (record { sums = tree'; filled = p + 1; total = total + value })
  size-tree-more p number value total tree tree' inside is low own t added =
      record {
        places = added.places ∙ t.places;
        some = omega arith;
        summed =
            summed-more _ tree t.summed ((number + 1) / 2) value tree' _ added
            (λ k. more (k * 2) ∙ ap (λ (b : Bool). byte_offset size (take p fs) (k * 2) + cond b value 0) (pair-above k number))
            (λ k. omega (arith, sizes-few (p + 1) (k * 2) (omega arith)));
        whole = sym (more 0 ∙ rw (lt-ltb 0 number low, ← t.whole));
      }
    where
      more : (s : ℕ) → byte_offset size (take (p + 1) fs) s ≡ byte_offset size (take p fs) s + cond (ltb s number) value 0
      more s = rw (own, take_more no_arrival fs p inside, is) (offset-more size (take p fs) s (get_or fs p no_arrival))

  -- the sum up to the pair of a packet, and what is above it
  pub total-sum : (t : PairTree) (s : ℕ) → t.filled ≡ length fs → s ≤ sent_most → SizeTree size fs t
      → sum_to t.sums (s / 2) + byte_offset size fs (s / 2 * 2) ≡ t.total
  total-sum t s all high k =
      let whole : take t.filled fs ≡ fs = take_all t.filled fs (omega arith) in
      let fits : byte_offset size (take t.filled fs) (0 * 2) < 2 ^ 32 = omega (arith, sizes-few t.filled (0 * 2) k.some) in
      let e = sum-summed _ t.sums k.summed (s / 2) (omega (arith, k.places)) fits in
      rw whole at (e ∙ sym k.whole)

  -- so the total without the sum is the byte offset of a packet that has not arrived
  pub offset-summed : (t : PairTree) (s : ℕ) → t.filled ≡ length fs → 1 ≤ s → s ≤ sent_most → SizeTree size fs t → has s fs ≡ false
      → t.total - sum_to t.sums (s / 2) ≡ byte_offset size fs s
  offset-summed t s all low high k new = omega (arith, total-sum t s all high k, offset-pair size s low fs new)
