-- What holds of every arrival holds of the first arrivals (`all_firsts`), and NextExp is at most K + 1 if all packets are of 1 to K
-- (`next-high`), both by induction on the next arrival. Then there are at most K first arrivals (`firsts-most`): of the packets 1 to K at
-- most K pass a test (`packets-most`), and the packets among the first arrivals are as many as these (`packets-firsts`). For this, let the
-- test g pass packet s, which f does not, and else what f passes. Then as many of the packets below s pass g as f (`packets-below`), and
-- from s on one more passes (`packets-from`). Here k is K, l are the arrivals, fs the first arrivals, a is the next, and t the outcome of
-- a test. Assumes nothing.
use Prim.Native.Nat.{ℕ, zero, suc, ◌+◌, ◌≤◌, ◌<◌}
use mathlib.Core.Path.{◌≡◌, refl, sym, ap, ◌∙◌}
use mathlib.Core.Bool.{Bool, true, false, cond, ◌||◌, or-false, or-true}
use mathlib.Core.List.{List, [], ◌∷◌, ◌++◌}
use native.Mathlib.Omega.{arith}
use lib.Dec.{eqb, leb}
use lib.ListN.{length, length-append}
use borrow.Author.Tests.{eqb-true, eqb-false, eq-eqb, ne_eqb}
use Rattle.rfc4737.specs.declared.Arrival.{Arrival}
use Rattle.rfc4737.specs.Arrivals.{has, with_arrival, firsts}
use Rattle.rfc4737.specs.Order.{next_after, next_exp}
use Rattle.rfc4737.proofs.Lists.{snoc-ind, All, Ordered, all-weaken, all_append, all_left, all_right, ordered-more, ordered-left, ordered-across}
use Rattle.rfc4737.proofs.Arrivals.{has_more, firsts_more, with-duplicate, with_first}
use Rattle.rfc4737.proofs.Folds.{next_more}

-- an arrival is of one of the packets 1 to K
pub record OfPackets (k : ℕ) (a : Arrival) : Type 0 where
  pub low : 1 ≤ a.number
  pub high : a.number ≤ k

-- what holds of first arrivals, and of them with one arrival more of a packet that is not among them, holds of them under it
pub with_cases : (P : List Arrival → Type 0) (fs : List Arrival) (a : Arrival)
    → P fs
    → (has a.number fs ≡ false → P (fs ++ (a ∷ [])))
    → P (with_arrival fs a)
with_cases P fs a h g = go (has a.number fs) refl
  where
    go : (t : Bool) → has a.number fs ≡ t → P (with_arrival fs a)
    go true e = rw (with-duplicate fs a e) h
    go false e = rw (with_first fs a e) (g e)

-- what holds of every arrival holds of every first arrival
pub all_firsts : (P : Arrival → Type 0) (l : List Arrival) → All P l → All P (firsts l)
unfolding firsts
all_firsts P = snoc-ind (λ (l : List Arrival). All P l → All P (firsts l)) more (λ h. tt)
  where
    more : (l : List Arrival) (a : Arrival) → (All P l → All P (firsts l)) → All P (l ++ (a ∷ [])) → All P (firsts (l ++ (a ∷ [])))
    more l a h g =
        let k = h (all_left P l (a ∷ []) g) in
        rw firsts_more (with_cases (All P) (firsts l) a k (λ n. all_append P (firsts l) (a ∷ []) k (all_right P l (a ∷ []) g)))

-- the first arrivals are in an order in which the arrivals are
pub ordered-firsts : (R : Arrival → Arrival → Type 0) (l : List Arrival) → Ordered R l → Ordered R (firsts l)
unfolding firsts
ordered-firsts R = snoc-ind (λ (l : List Arrival). Ordered R l → Ordered R (firsts l)) more (λ o. tt)
  where
    more : (l : List Arrival) (a : Arrival) → (Ordered R l → Ordered R (firsts l)) → Ordered R (l ++ (a ∷ []))
        → Ordered R (firsts (l ++ (a ∷ [])))
    more l a k o =
        let h = k (ordered-left R l (a ∷ []) o) in
        rw firsts_more (with_cases (Ordered R) (firsts l) a h (λ n. ordered-more R (firsts l) a h
        (all_firsts (λ (b : Arrival). R b a) l (all-weaken {P = λ (b : Arrival). All (R b) (a ∷ [])} {Q = λ (b : Arrival). R b a}
        (λ b q. q.0) l (ordered-across R l (a ∷ []) o)))))

-- NextExp is at most K + 1
pub next-high : (k : ℕ) (fs : List Arrival) → All (OfPackets k) fs → next_exp fs ≤ k + 1
unfolding next_exp next_after
next-high k = snoc-ind (λ (fs : List Arrival). All (OfPackets k) fs → next_exp fs ≤ k + 1) more (λ h. omega arith)
  where
    go : (next s : ℕ) → next ≤ k + 1 → s ≤ k → (t : Bool) → cond t (s + 1) next ≤ k + 1
    go next s h g true = omega arith
    go next s h g false = h

    more : (fs : List Arrival) (a : Arrival) → (All (OfPackets k) fs → next_exp fs ≤ k + 1) → All (OfPackets k) (fs ++ (a ∷ []))
        → next_exp (fs ++ (a ∷ [])) ≤ k + 1
    more fs a h g =
        rw next_more
        (go (next_exp fs) a.number (h (all_left (OfPackets k) fs (a ∷ []) g)) (all_right (OfPackets k) fs (a ∷ []) g).0.high
        (leb (next_exp fs) a.number))

-- how many of the packets 1 to n pass a test
packets_with : (ℕ → Bool) → ℕ → ℕ
packets_with f zero = 0
packets_with f (suc n) = cond (f (suc n)) (packets_with f n + 1) (packets_with f n)

-- at most n
packets-most : (f : ℕ → Bool) (n : ℕ) → packets_with f n ≤ n
unfolding packets_with
packets-most f zero = omega arith
packets-most f (suc n) = go (packets_with f n) (packets-most f n) (f (suc n))
  where
    go : (m : ℕ) → m ≤ n → (t : Bool) → cond t (m + 1) m ≤ suc n
    go m h true = omega arith
    go m h false = omega arith

-- a test that packet s passes besides, and did not pass before
module _ (f g : ℕ → Bool) (s : ℕ) (more : (r : ℕ) → g r ≡ (f r || eqb s r)) (new : f s ≡ false) where
  -- as many of the packets below s pass it as before
  packets-below : (n : ℕ) → n < s → packets_with g n ≡ packets_with f n
  unfolding packets_with
  packets-below zero h = refl
  packets-below (suc n) h =
      let e : eqb s (suc n) ≡ false = ne_eqb s (suc n) (λ q. omega arith) in
      rw (more (suc n), e, or-false (f (suc n)), packets-below n (omega arith))

  -- from s on, one more
  packets-from : (n : ℕ) → 1 ≤ s → s ≤ n → packets_with g n ≡ packets_with f n + 1
  unfolding packets_with
  packets-from zero h l = absurd (omega arith)
  packets-from (suc n) h l = go (eqb s (suc n)) refl (packets-from n h)
    where
      last : s ≡ suc n → packets_with g (suc n) ≡ packets_with f (suc n) + 1
      last q =
          let e : g (suc n) ≡ true = more (suc n) ∙ rw (eq-eqb s (suc n) q) (or-true (f (suc n))) in
          let d : f (suc n) ≡ false = rw q at new in
          rw (e, d, packets-below n (omega arith))

      step : (t : Bool) → g (suc n) ≡ t → f (suc n) ≡ t → packets_with g n ≡ packets_with f n + 1
          → packets_with g (suc n) ≡ packets_with f (suc n) + 1
      step true eg ef k = rw (eg, ef, k)
      step false eg ef k = rw (eg, ef, k)

      go : (t : Bool) → eqb s (suc n) ≡ t → (s ≤ n → packets_with g n ≡ packets_with f n + 1)
          → packets_with g (suc n) ≡ packets_with f (suc n) + 1
      go true e k = last (eqb-true s (suc n) e)
      go false e k =
          let ne : s ≡ suc n → ⊥ = eqb-false s (suc n) e in
          let le : s ≤ n = omega arith in
          step (f (suc n)) (more (suc n) ∙ rw (e, or-false (f (suc n)))) refl (k le)

-- as many of the packets 1 to K are among the first arrivals as there are first arrivals
packets-firsts : (k : ℕ) (l : List Arrival) → All (OfPackets k) l → packets_with (λ (s : ℕ). has s (firsts l)) k ≡ length (firsts l)
unfolding firsts has packets_with
packets-firsts k = snoc-ind Counted more none
  where
    Counted : List Arrival → Type 0
    Counted l = All (OfPackets k) l → packets_with (λ (s : ℕ). has s (firsts l)) k ≡ length (firsts l)

    none : Counted []
    none h = zeros k
      where
        zeros : (n : ℕ) → packets_with (λ (s : ℕ). false) n ≡ 0
        zeros zero = refl
        zeros (suc n) = zeros n

    more : (l : List Arrival) (a : Arrival) → Counted l → Counted (l ++ (a ∷ []))
    more l a h g =
        let n : OfPackets k a = (all_right (OfPackets k) l (a ∷ []) g).0 in
        let c = h (all_left (OfPackets k) l (a ∷ []) g) in
        rw firsts_more
        (with_cases (λ (fs : List Arrival). packets_with (λ (s : ℕ). has s fs) k ≡ length fs) (firsts l) a c
        (λ new.
        packets-from (λ (s : ℕ). has s (firsts l)) (λ (s : ℕ). has s (firsts l ++ (a ∷ []))) a.number
        (λ s. has_more s (firsts l) a) new k n.low n.high
        ∙ ap (λ (m : ℕ). m + 1) c ∙ sym (length-append (firsts l) (a ∷ []))))

-- L is at most K
pub firsts-most : (k : ℕ) (l : List Arrival) → All (OfPackets k) l → length (firsts l) ≤ k
firsts-most k l h = let e = packets-firsts k l h in let m = packets-most (λ (s : ℕ). has s (firsts l)) k in rw e at m
