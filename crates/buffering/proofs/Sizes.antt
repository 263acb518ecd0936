-- The search for the least size. A greater buffer accommodates no fewer, so if a size is too small, so are all smaller ones
-- (`too_small`). The bounds close in on the least size (`closer-high`, `closer-low`, `closed-between`, `met`), of which there is one
-- (`one-least`): the definition's (`sizes-are-least`, `found-least`).
-- Here m is the measure, l some answers, part and whole the share. Assumes nothing.
use mathlib.Core.Path.{◌≡◌, refl, sym, ap, subst, ◌∙◌}
use mathlib.Core.Bool.{Bool, true, false, cond}
use mathlib.Core.List.{List, [], ◌∷◌}
use Prim.Native.Nat.{ℕ, zero, suc, ◌+◌, ◌-◌, ◌*◌, ◌^◌, ◌≤◌, ◌<◌}
use native.Mathlib.Nat.{mul-add, add-mul, mul-one, one-mul, mul-le-mul_right, mul-le-mul_left}
use native.Mathlib.Omega.{arith}
use lib.Dec.{leb, ltb}
use lib.ListN.{get_or}
use borrow.Author.Tests.{leb-true, leb-false, ltb-true, ltb-false}
use Rattle.rfc4737.specs.declared.Answer.{Answer}
use Rattle.rfc4737.specs.Answer.{answers}
use Rattle.rfc4737.specs.Refusals.{outside, refusal_if, asked_outside}
use Rattle.rfc4737.specs.Runs.{arrived}
use Rattle.rfc4737.proofs.Due.{first-due, between}
use Rattle.sample.specs.Decode.{Decoded, refused, accepted, decoded_refusal}
use Rattle.metrics.specs.Sample.{answers_of}
use Rattle.metrics.specs.Figures.{asked_refusal, step_count}
use Rattle.rfc4737.specs.declared.Measure.{Measure}
use Rattle.rfc4737.specs.Needs.{greatest_need, accommodated}
use Rattle.rfc4737.proofs.Needs.{accommodated-grows, all_in, some_out}
use Rattle.buffering.specs.declared.Bounds.{Bounds}
use Rattle.buffering.specs.Least.{first_enough, least_size, share_answers, sample_least, Enough, Least, SizesAreLeast, OneLeast, MoreIsNoWorse, AllIsGreatest}
use Rattle.buffering.specs.Private.{Between, FirstEnough}

-- ---- the least size

module _ (m : Measure) (part whole : ℕ) (l : List Answer) where
  -- a size smaller than one that is too small is too small
  too_small : (a b : ℕ) → a ≤ b → (Enough m part whole l b → ⊥) → Enough m part whole l a → ⊥
  too_small a b h n e = n (omega (arith, e, mul-le-mul_left whole (accommodated-grows m l a b h)))

  -- a size that the test finds to be too small
  pub not-enough : (size : ℕ) → leb (part * arrived l) (whole * accommodated m size l) ≡ false → Enough m part whole l size → ⊥
  not-enough size q e = let k = leb-false (part * arrived l) (whole * accommodated m size l) q in omega (arith, e, k)

  -- the bounds at first: 0 and the greatest need
  pub start : part ≤ whole → Between m part whole l (record { low = 0; high = greatest_need m l })
  start h =
      record {
        order = omega arith;
        enough = rw (all_in m (greatest_need m l) l (omega arith)) (mul-le-mul_right (arrived l) h);
        small = λ size g. absurd (omega arith);
      }

  module _ (b : Bounds) (h : Between m part whole l b) (middle : ℕ) where
    -- a size between them that is enough is the new high one
    pub closer-high : b.low ≤ middle → Enough m part whole l middle → Between m part whole l (record { low = b.low; high = middle })
    closer-high g e = record { order = g; enough = e; small = h.small }

    -- a size below the high one that is too small moves the low one past it
    pub closer-low : middle < b.high → (Enough m part whole l middle → ⊥)
        → Between m part whole l (record { low = middle + 1; high = b.high })
    closer-low g n =
        record { order = omega arith; enough = h.enough; small = λ size k. too_small size middle (omega arith) n }

  module _ (b : Bounds) (h : Between m part whole l b) where
    -- a size that is too small is below the high one
    pub under : (size : ℕ) → (Enough m part whole l size → ⊥) → size < b.high
    under size n = go (ltb size b.high) refl
      where
        go : (t : Bool) → ltb size b.high ≡ t → size < b.high
        go true e = ltb-true size b.high e
        go false e = absurd (too_small b.high size (ltb-false size b.high e) n h.enough)

    -- if the low one is enough, both bounds are the low one
    pub closed : Enough m part whole l b.low → Between m part whole l (record { low = b.low; high = b.low })
    closed e = record { order = omega arith; enough = e; small = h.small }

    -- a size that is too small moves the low one past it
    pub closed-above : (below : ℕ) → (Enough m part whole l below → ⊥) → Between m part whole l (record { low = below + 1; high = b.high })
    closed-above below n = closer-low b h below (under below n) n

    -- and a greater one that is enough is the new high one
    pub closed-between : (below top : ℕ) → b.low ≤ top → below < top → (Enough m part whole l below → ⊥) → Enough m part whole l top
        → Between m part whole l (record { low = below + 1; high = top })
    closed-between below top g k n e = closer-low (record { low = b.low; high = top }) (closer-high b h top g e) below k n

  -- when the bounds meet, they are the least size
  pub met : (b : Bounds) → Between m part whole l b → b.high ≤ b.low → Least m part whole l b.low
  met b h g =
      let e : b.high ≡ b.low = omega (arith, h.order) in
      record { enough = rw e at h.enough; least = h.small }

  -- there is one least size
  one : (a b : ℕ) → Least m part whole l a → Least m part whole l b → (s t : Bool) → ltb a b ≡ s → ltb b a ≡ t → a ≡ b
  one a b h g true t e q = absurd (g.least a (ltb-true a b e) h.enough)
  one a b h g false true e q = absurd (h.least b (ltb-true b a q) g.enough)
  one a b h g false false e q = omega (arith, ltb-false a b e, ltb-false b a q)

-- ---- several sizes at once

module _ (m : Measure) (part whole : ℕ) (l : List Answer) (low shift all : ℕ) (counts : List ℕ) (same : all ≡ arrived l)
    (is : (j : ℕ) → j < step_count → get_or counts j 0 ≡ accommodated m (low + j * 2 ^ shift) l) (at : ℕ)
    (f : FirstEnough part whole all counts at) where
  -- a size is enough exactly if its count is
  by_count : (j : ℕ) (t : Bool) → j < step_count → leb (part * all) (whole * get_or counts j 0) ≡ t
      → leb (part * arrived l) (whole * accommodated m (low + j * 2 ^ shift) l) ≡ t
  by_count j t few e = rw (same, is j few) at e

  -- if the index found is 0, the first size is enough
  pub first-is : at ≡ 0 → Enough m part whole l low
  first-is z =
      let e = by_count 0 true (omega arith) (rw z at (f.found (omega (arith, z)))) in
      let k : low + 0 * 2 ^ shift ≡ low = omega arith in
      rw k at (leb-true (part * arrived l) (whole * accommodated m (low + 0 * 2 ^ shift) l) e)

  -- else the size before the one found is not enough
  pub before-not : (at ≡ 0 → ⊥) → Enough m part whole l (low + (at - 1) * 2 ^ shift) → ⊥
  before-not n =
      not-enough m part whole l (low + (at - 1) * 2 ^ shift)
      (by_count (at - 1) false (omega (arith, n, f.within)) (f.before (at - 1) (omega (arith, n))))

  -- so it is below the high bound
  pub before-inside : (b : Bounds) → Between m part whole l b → (at ≡ 0 → ⊥) → low + (at - 1) * 2 ^ shift < b.high
  before-inside b h n = under m part whole l b h (low + (at - 1) * 2 ^ shift) (before-not n)

  -- and the size after that is enough, if the index found is one of the counts
  pub after_is : (at ≡ 0 → ⊥) → at < step_count → Enough m part whole l (low + (at - 1) * 2 ^ shift + 2 ^ shift)
  after_is n few =
      let e = leb-true (part * arrived l) (whole * accommodated m (low + at * 2 ^ shift) l) (by_count at true few (f.found few)) in
      let k : at - 1 + 1 ≡ at = omega (arith, n) in
      let p : (at - 1 + 1) * 2 ^ shift ≡ (at - 1) * 2 ^ shift + 1 * 2 ^ shift = add-mul (at - 1) 1 (2 ^ shift) in
      let q : at * 2 ^ shift ≡ (at - 1) * 2 ^ shift + 2 ^ shift =
      ap (λ (n : ℕ). n * 2 ^ shift) (sym k) ∙ p ∙ ap (λ (n : ℕ). (at - 1) * 2 ^ shift + n) (one-mul (2 ^ shift)) in
      let r : low + at * 2 ^ shift ≡ low + (at - 1) * 2 ^ shift + 2 ^ shift = omega (arith, q) in
      rw r at e

  -- the index found is one of the counts if the sizes reach over more than is left
  pub one-after : (high : ℕ) → high - low < step_count * 2 ^ shift → 2 ^ shift < high - (low + (at - 1) * 2 ^ shift) → at < step_count
  one-after high reach left = go (ltb at step_count) refl
    where
      go : (t : Bool) → ltb at step_count ≡ t → at < step_count
      go true e = ltb-true at step_count e
      go false e =
          let k : at - 1 ≡ 127 = omega (arith, ltb-false at step_count e, f.within) in
          let p : (at - 1) * 2 ^ shift ≡ 127 * 2 ^ shift = ap (λ (n : ℕ). n * 2 ^ shift) k in
          absurd (omega (arith, p, reach, left))

-- ---- theorems on the least size

pub one-least : OneLeast
one-least = record { same = λ m part whole l a b h g. one m part whole l a b h g (ltb a b) (ltb b a) refl refl }

pub more-is-no-worse : MoreIsNoWorse
more-is-no-worse = record { more = accommodated-grows }

pub all-is-greatest : AllIsGreatest
all-is-greatest =
    record {
      all = λ m l n h. record {
        enough = rw (all_in m (greatest_need m l) l (omega arith)) (omega arith);
        least = λ s g e. out m l n h s g e;
      };
    }
  where
    out : (m : Measure) (l : List Answer) (n : ℕ) → 1 ≤ n → (s : ℕ) → s < greatest_need m l → n * arrived l ≤ n * accommodated m s l → ⊥
    out m l n h s g e =
        let k : accommodated m s l + 1 ≤ arrived l = omega (arith, some_out m s l g) in
        let p : n * (accommodated m s l + 1) ≤ n * arrived l = mul-le-mul_left n k in
        omega (arith, e, p, mul-add n (accommodated m s l) 1, mul-one n)

-- the first size from 0 on that is enough is the least: while the size asked is too small, the least is between the next one and the
-- greatest need, so that the steps do not run out
first-least : (m : Measure) (part whole : ℕ) (l : List Answer) (steps size : ℕ)
    → Between m part whole l (record { low = size; high = size + steps }) → Least m part whole l (first_enough m part whole l steps size)
unfolding first_enough
first-least m part whole l zero size h = met m part whole l _ h (omega arith)
first-least m part whole l (suc steps) size h =
    go (leb (part * arrived l) (whole * accommodated m size l)) refl (first-least m part whole l steps (size + 1))
  where
    go : (t : Bool) → leb (part * arrived l) (whole * accommodated m size l) ≡ t
        → (Between m part whole l (record { low = size + 1; high = size + 1 + steps })
        → Least m part whole l (first_enough m part whole l steps (size + 1)))
        → Least m part whole l (cond t size (first_enough m part whole l steps (size + 1)))
    go true e more =
        let q = leb-true (part * arrived l) (whole * accommodated m size l) e in
        met m part whole l (record { low = size; high = size }) (closer-high m part whole l _ h size (omega arith) q) (omega arith)
    go false e more =
        let same : size + suc steps ≡ size + 1 + steps = omega arith in
        more
        (subst (λ (n : ℕ). Between m part whole l (record { low = size + 1; high = n })) same
        (closer-low m part whole l _ h size (omega arith) (not-enough m part whole l size e)))

pub sizes-are-least : SizesAreLeast
unfolding least_size
sizes-are-least m part whole l h =
    first-least m part whole l (greatest_need m l) 0
    (subst (λ (n : ℕ). Between m part whole l (record { low = 0; high = n })) (omega arith) (start m part whole l h))

-- a least size is the definition's
found-least : (m : Measure) (part whole : ℕ) (l : List Answer) (size : ℕ) → part ≤ whole → Least m part whole l size
    → size ≡ least_size m part whole l
found-least m part whole l size h found = one-least.same m part whole l size _ found (sizes-are-least m part whole l h)

-- ---- the answer

-- the least size for no answers
least-none : (m : Measure) (part whole : ℕ) → 0 ≡ least_size m part whole []
unfolding least_size greatest_need Rattle.rfc4737.specs.Needs.greatest first_enough
least-none m part whole = refl

module _ (d : Decoded) (m : Measure) (part whole : ℕ) where
  -- an answer by its parts
  by_parts : (r size : ℕ) → r ≡ asked_refusal d 1 whole part → size ≡ least_size m part whole (share_answers d part whole)
      → record { refusal = r; size = size } ≡ sample_least d m part whole
  unfolding sample_least
  by_parts r size e f = λ i. record { refusal = e i; size = f i }

  -- with the file's own refusal
  pub least-refused : (r : ℕ) → r ≡ decoded_refusal d → (r ≡ 0 → ⊥) → record { refusal = r; size = 0 } ≡ sample_least d m part whole
  unfolding answers Rattle.rfc4737.specs.Arrivals.each Rattle.rfc4737.specs.Arrivals.each_after
  least-refused r e n =
      by_parts r 0 (e ∙ sym (first-due (decoded_refusal d) (refusal_if (outside 1 whole part) asked_outside ∷ []) (omega (arith, e, n))))
      (rw (none d (λ z. n (e ∙ z)) (outside 1 whole part)) (least-none m part whole))
    where
      none : (d : Decoded) → (decoded_refusal d ≡ 0 → ⊥) → (b : Bool) → cond b [] (answers_of d) ≡ []
      none d n true = refl
      none (refused r) n false = refl
      none (accepted s) n false = absurd (n refl)

  -- with 9
  pub least-outside : decoded_refusal d ≡ 0 → outside 1 whole part ≡ true → record { refusal = 9; size = 0 } ≡ sample_least d m part whole
  least-outside z o = by_parts 9 0 (rw (z, o)) (rw o (least-none m part whole))

  -- with none
  pub least-found : decoded_refusal d ≡ 0 → outside 1 whole part ≡ false → (size : ℕ) → Least m part whole (answers_of d) size
      → record { refusal = 0; size = size } ≡ sample_least d m part whole
  least-found z o size h = by_parts 0 size (rw (z, o)) (rw o (found-least m part whole (answers_of d) size (between 1 whole part o).1 h))
