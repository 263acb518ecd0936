-- The gap of a position from a table of discoverers, read downward. First `last_to`, the last discontinuity up to a position in the table,
-- one position at a time. A position is marked in the table exactly if it is a discontinuity (`marked-some`), so the neighbour of a
-- position is the last marked one before it (`neighbour-known`, by induction over the positions), and the gap is that over it
-- (`gap-known`). Hence the three cases: no gap if p is not marked (`gap_other`), none if nothing is marked before it (`gap-first`), and
-- else by the two entries, of which the smaller is the earlier discoverer (`gap-near`).
-- Here l are the answers, discoverers the table, m that it has their discoverers, p the position, q one before it and b the neighbour.
-- Assumes nothing.
use Rattle.std.specs.Prelude.{None, Some}
use mathlib.Core.Path.{◌≡◌, refl, sym, ap, ◌∙◌}
use mathlib.Core.Bool.{Bool, true, false, cond, not}
use mathlib.Core.List.{List}
use mathlib.Core.Option.{Option, none, some}
use Prim.Native.Nat.{ℕ, zero, suc, ◌-◌, ◌≤◌, ◌<◌}
use native.Mathlib.Omega.{arith}
use lib.Dec.{eqb, ltb}
use lib.ListN.{get_or}
use borrow.Author.Tests.{eq-eqb, ne_eqb, eqb-false, le-ltb}
use Rattle.rfc4737.specs.declared.Answer.{Answer}
use Rattle.rfc4737.specs.Gaps.{Gap, discoverer, is_some, earlier, neighbour, gap_over, gap_of}
use Rattle.rfc4737.specs.Judge.{sent_most}
use Rattle.metrics.specs.Private.Steps.{DiscoverersAt, last_to, known}
use Rattle.metrics.proofs.OneArrivalMore.{known_some}

-- ---- the last discontinuity of a table up to a position

module _ (discoverers : List ℕ) where
  -- by the entry at a position
  last-suc : (q : ℕ) (t : Bool) → eqb (get_or discoverers (suc q) 0) 0 ≡ t
      → last_to discoverers (suc q) ≡ cond t (last_to discoverers q) (suc q)
  unfolding last_to
  last-suc q t e = rw e

  -- it is the position itself, if that is a discontinuity
  pub last-here : (q : ℕ) → 0 < q → (get_or discoverers q 0 ≡ 0 → ⊥) → last_to discoverers q ≡ q
  last-here zero low h = absurd (omega arith)
  last-here (suc q) low h = last-suc q false (ne_eqb _ 0 h)

  -- else the last before it
  pub last-before : (q : ℕ) → 0 < q → get_or discoverers q 0 ≡ 0 → last_to discoverers q ≡ last_to discoverers (q - 1)
  last-before zero low h = absurd (omega arith)
  last-before (suc q) low h = last-suc q true (eq-eqb _ 0 h) ∙ ap (last_to discoverers) (omega arith)

  -- and none up to 0
  pub last_none : (q : ℕ) → q ≤ 0 → last_to discoverers q ≡ 0
  unfolding last_to
  last_none q h = let e : q ≡ 0 = omega arith in rw e

  -- it is no later position
  pub last-le : (q : ℕ) → last_to discoverers q ≤ q
  last-le zero = omega (arith, last_none 0 (omega arith))
  last-le (suc q) = go (eqb (get_or discoverers (suc q) 0) 0) refl (last-le q)
    where
      go : (t : Bool) → eqb (get_or discoverers (suc q) 0) 0 ≡ t → last_to discoverers q ≤ q → last_to discoverers (suc q) ≤ suc q
      go true e h = rw (last-suc q true e) (omega arith)
      go false e h = rw (last-suc q false e) (omega arith)

  -- it is marked, if there is one
  last-marked : (q : ℕ) → (last_to discoverers q ≡ 0 → ⊥) → get_or discoverers (last_to discoverers q) 0 ≡ 0 → ⊥
  last-marked zero h z = h (last_none 0 (omega arith))
  last-marked (suc q) h z = go (eqb (get_or discoverers (suc q) 0) 0) refl (last-marked q)
    where
      go : (t : Bool) → eqb (get_or discoverers (suc q) 0) 0 ≡ t
          → ((last_to discoverers q ≡ 0 → ⊥) → get_or discoverers (last_to discoverers q) 0 ≡ 0 → ⊥) → ⊥
      go true e k = k (λ w. h (last-suc q true e ∙ w)) (rw (last-suc q true e) at z)
      go false e k = eqb-false (get_or discoverers (suc q) 0) 0 e (rw (last-suc q false e) at z)

-- of two discoverers, 0 for none, the first is earlier if it is less
earlier-known : (d e : ℕ) → (d ≡ 0 → ⊥) → earlier (known d) (known e) ≡ ltb d e
unfolding earlier
earlier-known zero e h = absurd (h refl)
earlier-known (suc d) zero h = sym (le-ltb (suc d) 0 (omega arith))
earlier-known (suc d) (suc e) h = refl

-- ---- the gap by the table

-- nothing is discovered earlier than what is not discovered
earlier-none : (d : Option ℕ) → earlier d none ≡ false
unfolding earlier
earlier-none none = refl
earlier-none (some d) = refl

-- a position that is no discontinuity has no gap, over any neighbour
none_over : (l : List Answer) (p : ℕ) → discoverer p l ≡ none → (b : Option ℕ) → gap_over l p b ≡ None
unfolding gap_over
none_over l p e none = refl
none_over l p e (some q) = rw (e, earlier-none (discoverer q l))

-- a number that stands for no position
pub known-none : (n : ℕ) → none ≡ known n → n ≡ 0
known-none zero e = refl
known-none (suc n) e = cc

-- and one that stands for a position
pub known-is : (b n : ℕ) → some b ≡ known n → (b ≡ n) × (1 ≤ b)
known-is b zero e = cc
known-is b (suc n) e = let s : b ≡ suc n = cc in (s, omega (arith, s))

module _ (l : List Answer) where
  module _ (discoverers : List ℕ) (m : DiscoverersAt l discoverers) where
    -- a discontinuity is marked
    marked-some : (p : ℕ) → 1 ≤ p → p ≤ sent_most → is_some (discoverer p l) ≡ not (eqb (get_or discoverers p 0) 0)
    marked-some p low high = rw (← m.at p low high) (go (get_or discoverers p 0))
      where
        go : (x : ℕ) → is_some (known x) ≡ not (eqb x 0)
        go zero = refl
        go (suc x) = rw (ne_eqb (suc x) 0 (λ z. omega (arith, z)))

    -- the neighbour of the position after q is the last discontinuity of the table up to q
    neighbour-known : (q : ℕ) → q ≤ sent_most → neighbour l (suc q) ≡ known (last_to discoverers q)
    unfolding neighbour last_to
    neighbour-known zero h = refl
    neighbour-known (suc q) h =
        go (eqb (get_or discoverers (suc q) 0) 0) (is_some (discoverer (suc q) l)) (marked-some (suc q) (omega arith) h)
        (neighbour-known q (omega arith))
      where
        go : (z t : Bool) → t ≡ not z → neighbour l (suc q) ≡ known (last_to discoverers q)
            → cond t (some (suc q)) (neighbour l (suc q)) ≡ known (cond z (last_to discoverers q) (suc q))
        go true t e k = rw e k
        go false t e k = rw e

    -- of two discoverers the first is earlier by the table, if it is there
    earlier-marked : (q p : ℕ) → 1 ≤ q → q ≤ sent_most → 1 ≤ p → p ≤ sent_most → (get_or discoverers q 0 ≡ 0 → ⊥)
        → earlier (discoverer q l) (discoverer p l) ≡ ltb (get_or discoverers q 0) (get_or discoverers p 0)
    earlier-marked q p low high low' high' h =
        rw (← m.at q low high, ← m.at p low' high') (earlier-known (get_or discoverers q 0) (get_or discoverers p 0) h)

    -- the gap of a position is that over the last discontinuity of the table before it
    gap-known : (p : ℕ) → 1 ≤ p → p ≤ sent_most → gap_of l (some p) ≡ gap_over l p (known (last_to discoverers (p - 1)))
    unfolding gap_of
    gap-known zero low few = absurd (omega arith)
    gap-known (suc q) low few =
        let back : suc q - 1 ≡ q = omega arith in
        rw back (ap (gap_over l (suc q)) (neighbour-known q (omega arith)))

    module _ (p : ℕ) (low : 1 ≤ p) (few : p ≤ sent_most) where
      -- there is none at a position that is no discontinuity
      pub gap_other : get_or discoverers p 0 ≡ 0 → None ≡ gap_of l (some p)
      gap_other e = sym (gap-known p low few ∙ none_over l p (sym (m.at p low few) ∙ ap known e) (known (last_to discoverers (p - 1))))

      module _ (b : ℕ) (e : b ≡ last_to discoverers (p - 1)) where
        -- nor at the first one
        pub gap-first : b ≡ 0 → None ≡ gap_of l (some p)
        unfolding gap_over
        gap-first z = sym (gap-known p low few ∙ rw (← e, z))

        -- any other has one if the one before it was discovered earlier
        pub gap-near : (t : Bool) → (b ≡ 0 → ⊥) → ltb (get_or discoverers b 0) (get_or discoverers p 0) ≡ t
            → cond t (Some (p - b)) None ≡ gap_of l (some p)
        unfolding gap_over
        gap-near t s k =
            let marked : get_or discoverers b 0 ≡ 0 → ⊥ = rw e (last-marked discoverers (p - 1) (λ z. s (e ∙ z))) in
            let earlier-here = earlier-marked b p (omega (arith, s)) (omega (arith, e, few, last-le discoverers (p - 1))) low few marked in
            sym (gap-known p low few ∙ rw (← e, known_some b s, earlier-here, k))
