-- How many octets two texts have in common, octet by octet. If the first i octets agree, the number is i plus that of the rests; an equal
-- octet moves i on (`common-step`), and where octets differ or a text ends the number is i. Two texts are the same if they have all of
-- both in common (`same-common`, by induction over both). Of a line and what follows it: if less than the line agrees, what follows is
-- not read (`common-part`); if all of it does, what follows is compared with the rest of the text (`common-after`), both by induction
-- over the line. Last, a line written at the start of a buffer is what is read there (`line_read`).
-- Here e is the expected text, t the other. Assumes nothing.
use Prim.Native.Nat.{ℕ, suc, ◌+◌, ◌-◌, ◌≤◌, ◌<◌}
use mathlib.Core.Path.{◌≡◌, refl}
use mathlib.Core.Bool.{Bool, true, false, cond, ◌&&◌}
use mathlib.Core.List.{List, [], ◌∷◌, ◌++◌}
use native.Mathlib.Omega.{arith}
use lib.Dec.{eqb}
use lib.ListN.{length, take, drop, get_or, length-drop, drop_of_length-le}
use lib.Seq.{drop-cons, take_all}
use borrow.Author.Tests.{eqb-true, eqb-false, eq-eqb, ne_eqb}
use Rattle.octets.specs.Memory.{put}
use Rattle.octets.proofs.Memory.{put-part}
use Rattle.metrics.specs.Agreement.{common, same_text}

-- ---- octet by octet

-- none with an empty text
common-nil : (e : List ℕ) → common e [] ≡ 0
unfolding common
common-nil [] = refl
common-nil (x ∷ e) = refl

module _ (e t : List ℕ) (i : ℕ) where
  -- the next octet that agrees
  pub common-step : i < length e → i < length t → get_or e i 0 ≡ get_or t i 0
      → i + common (drop i e) (drop i t) ≡ i + 1 + common (drop (i + 1) e) (drop (i + 1) t)
  unfolding common
  common-step h g q =
      let a : i + 1 ≡ suc i = omega arith in
      rw (drop-cons e i 0 h, drop-cons t i 0 g, eq-eqb (get_or e i 0) (get_or t i 0) q, a) (omega arith)

  -- none more where they differ
  pub common-stop : i < length e → i < length t → (get_or e i 0 ≡ get_or t i 0 → ⊥) → i + common (drop i e) (drop i t) ≡ i
  unfolding common
  common-stop h g q = rw (drop-cons e i 0 h, drop-cons t i 0 g, ne_eqb (get_or e i 0) (get_or t i 0) q) (omega arith)

  -- none more at the end of one
  pub common-end : length e ≤ i → i + common (drop i e) (drop i t) ≡ i
  unfolding common
  common-end h = rw (drop_of_length-le e h) (omega arith)

  -- nor of the other
  pub common-cut : length t ≤ i → i + common (drop i e) (drop i t) ≡ i
  common-cut h = rw (drop_of_length-le t h, common-nil (drop i e)) (omega arith)

-- at most as many as either has
pub common-le : (e t : List ℕ) → (common e t ≤ length e) × (common e t ≤ length t)
unfolding common
common-le [] t = omega arith
common-le (x ∷ e) [] = omega arith
common-le (x ∷ e) (y ∷ t) = go (common-le e t) (eqb x y)
  where
    go : (common e t ≤ length e) × (common e t ≤ length t) → (b : Bool)
        → (cond b (common e t + 1) 0 ≤ suc (length e)) × (cond b (common e t + 1) 0 ≤ suc (length t))
    go h true = omega arith
    go h false = omega arith

-- ---- the same text

-- two numbers are equal if two others are, and only then
pub eqb_same : (a b c d : ℕ) → (a ≡ b → c ≡ d) → (c ≡ d → a ≡ b) → eqb c d ≡ eqb a b
eqb_same a b c d f g = go (eqb a b) refl
  where
    go : (t : Bool) → eqb a b ≡ t → eqb c d ≡ t
    go true q = eq-eqb c d (f (eqb-true a b q))
    go false q = ne_eqb c d (λ r. eqb-false a b q (g r))

-- two texts are the same if what they have in common is all of both
pub same-common : (e t : List ℕ) → same_text e t ≡ (eqb (common e t) (length e) && eqb (common e t) (length t))
unfolding common same_text
same-common [] [] = refl
same-common [] (y ∷ t) = rw (ne_eqb 0 (suc (length t)) (λ q. omega arith))
same-common (x ∷ e) [] = rw (ne_eqb 0 (suc (length e)) (λ q. omega arith))
same-common (x ∷ e) (y ∷ t) = go (eqb x y) (same-common e t)
  where
    more : (n : ℕ) → eqb (common e t + 1) (suc n) ≡ eqb (common e t) n
    more n = eqb_same (common e t) n (common e t + 1) (suc n) (λ q. omega arith) (λ q. omega arith)

    go : (b : Bool) → same_text e t ≡ (eqb (common e t) (length e) && eqb (common e t) (length t))
        → (b && same_text e t) ≡ (eqb (cond b (common e t + 1) 0) (suc (length e)) && eqb (cond b (common e t + 1) 0) (suc (length t)))
    go true h = rw (more (length e), more (length t)) h
    go false h = rw (ne_eqb 0 (suc (length e)) (λ q. omega arith))

-- ---- a line, and what stands after it

-- where not all of it agrees, what stands after it is not read
pub common-part : (line rest t : List ℕ) → common line t < length line → common (line ++ rest) t ≡ common line t
unfolding common
common-part [] rest t h = absurd (omega arith)
common-part (x ∷ e) rest [] h = refl
common-part (x ∷ e) rest (y ∷ t) h = go (eqb x y) (common-part e rest t) h
  where
    go : (b : Bool) → (common e t < length e → common (e ++ rest) t ≡ common e t) → cond b (common e t + 1) 0 < suc (length e)
        → cond b (common (e ++ rest) t + 1) 0 ≡ cond b (common e t + 1) 0
    go true k h = rw (k (omega arith))
    go false k h = refl

-- where all of it agrees, what stands after it is compared with the rest
pub common-after : (line rest t : List ℕ) → common line t ≡ length line
    → common (line ++ rest) t ≡ length line + common rest (drop (length line) t)
unfolding common
common-after [] rest t h = omega arith
common-after (x ∷ e) rest [] h = absurd (omega arith)
common-after (x ∷ e) rest (y ∷ t) h = go (eqb x y) (common-after e rest t) h
  where
    go : (b : Bool) → (common e t ≡ length e → common (e ++ rest) t ≡ length e + common rest (drop (length e) t))
        → cond b (common e t + 1) 0 ≡ suc (length e)
        → cond b (common (e ++ rest) t + 1) 0 ≡ suc (length e) + common rest (drop (length e) t)
    go true k h = let q = k (omega arith) in omega arith
    go false k h = absurd (omega arith)

-- ---- a line that was put at the start of a buffer

module _ (line old new : List ℕ) (n : ℕ) (e : n ≡ length line) (h : length line ≤ length old) (q : new ≡ put 0 line old) where
  -- it stands there
  pub line_read : take n new ≡ line
  line_read = rw (e, q) (put-part 0 (length line) line old refl (omega arith))
