-- Laws of `any`, and a packet's completeness by its first uncovered octet. `any` holds exactly if one element passes: by induction on the
-- list, at a place (`any_at`) or at none (`any_none`). Let r be the first octet of packet s that is not covered. Every octet below n is
-- covered exactly if n is at most r (`below-reach`, by induction on n). So s is complete exactly if an arrival of it with no more to come
-- ends by r (`complete-ends`). The five lists, read side by side, give at each place the arrival of the values there (`pieces-get_or`).
-- Here p and q are tests, l is a list, a and b its elements, i a place and z what is read past the end, o an octet; ns, ts, ls, ms and os
-- are the five lists. Assumes nothing.
use Prim.Native.Nat.{ℕ, zero, suc, ◌+◌, ◌≤◌, ◌<◌}
use native.Mathlib.Omega.{arith}
use mathlib.Core.Bool.{Bool, true, false, ◌&&◌, ◌||◌, or_assoc, or-false, or-true}
use mathlib.Core.Path.{◌≡◌, refl, sym, ap, ◌∙◌}
use mathlib.Core.List.{List, [], ◌∷◌, ◌++◌}
use borrow.Author.Tests.{le-leb, leb-true, leb-false, ne_eqb}
use lib.Dec.{leb, eqb}
use lib.ListN.{length, get_or, drop}
use lib.Seq.{get_or-drop}
use Rattle.fragments.specs.declared.Piece.{Piece}
use Rattle.fragments.specs.Pieces.{pieces_of, any, is_last, piece_end}
use Rattle.fragments.specs.Private.{no_piece, ends_by, Reach}
use Rattle.fragments.specs.Usable.{has_octet, every_below, covered, complete}

pub both : (a b : Bool) → (a && b) ≡ true → (a ≡ true) × (b ≡ true)
both true b e = (refl, e)
both false b e = absurd (let z : ◌≡◌ {A = ℕ} 0 1 = cc in omega arith)

module _ {ℓ} {A : Type ℓ} (p : A → Bool) where
  -- an element that passes
  pub any_at : (l : List A) (i : ℕ) (z : A) → i < length l → p (get_or l i z) ≡ true → any p l ≡ true
  unfolding any
  any_at [] i z h e = absurd (omega arith)
  any_at (a ∷ l) zero z h e = rw e
  any_at (a ∷ l) (suc i) z h e = rw (any_at l i z (omega arith) e) (or-true (p a))

  -- no element passes
  pub any_none : (l : List A) (z : A) → ((i : ℕ) → i < length l → p (get_or l i z) ≡ false) → any p l ≡ false
  unfolding any
  any_none [] z h = refl
  any_none (a ∷ l) z h = rw (h 0 (omega arith), any_none l z (λ (i : ℕ) (k : i < length l). h (suc i) (omega arith)))

  -- under one element more
  pub any-more : (l : List A) (a : A) → any p (l ++ (a ∷ [])) ≡ (any p l || p a)
  unfolding any
  any-more [] a = or-false (p a)
  any-more (b ∷ l) a = rw (any-more l a) (sym (or_assoc (p b) (any p l) (p a)))

-- of two tests that agree
pub any_same {ℓ} : {A : Type ℓ} (p q : A → Bool) → ((a : A) → p a ≡ q a) → (l : List A) → any p l ≡ any q l
unfolding any
any_same p q h [] = refl
any_same p q h (a ∷ l) = rw (h a, any_same p q h l)

-- a test that the numbers below r pass, and r does not, is passed by every number below n exactly if n is at most r
below-reach : (p : ℕ → Bool) (r : ℕ) → ((o : ℕ) → o < r → p o ≡ true) → p r ≡ false → (n : ℕ) → every_below n p ≡ leb n r
unfolding every_below
below-reach p r h k zero = sym (le-leb 0 r (omega arith))
below-reach p r h k (suc n) = go (below-reach p r h k n) (leb (suc n) r) refl
  where
    past : (t : Bool) → leb n r ≡ t → r ≤ n → (t && p n) ≡ false
    past false e g = refl
    past true e g = let q : n ≡ r = omega (arith, leb-true n r e) in rw q k

    go : every_below n p ≡ leb n r → (t : Bool) → leb (suc n) r ≡ t → (every_below n p && p n) ≡ t
    go b true e =
        let g : suc n ≤ r = leb-true (suc n) r e in
        rw (b, le-leb n r (omega arith), h n g)
    go b false e = rw b (past (leb n r) refl (omega (arith, leb-false (suc n) r e)))

-- a test that all numbers below n pass
pub every-below : (n : ℕ) (p : ℕ → Bool) → ((o : ℕ) → o < n → p o ≡ true) → every_below n p ≡ true
unfolding every_below
every-below zero p h = refl
every-below (suc n) p h = rw (every-below n p (λ o g. h o (omega arith)), h n (omega arith))

-- packet s is complete exactly if one of its arrivals with no more to come ends by its first uncovered octet
pub complete-ends : (l : List Piece) (s r : ℕ) → Reach l s r → complete l s ≡ any (ends_by s r) l
unfolding complete covered ends_by
complete-ends l s r h =
    any_same _ _ (λ (a : Piece). ap (λ (t : Bool). eqb a.number s && (is_last a && t))
    (below-reach (λ (o : ℕ). any (has_octet s o) l) r h.covered h.uncovered (piece_end a))) l

-- ---- the arrivals of lists

pub pieces-length : (ns ts ls ms os : List ℕ) → length (pieces_of ns ts ls ms os) ≡ length ns
unfolding pieces_of
pieces-length [] ts ls ms os = refl
pieces-length (n ∷ ns) ts ls ms os = ap suc (pieces-length ns (drop 1 ts) (drop 1 ls) (drop 1 ms) (drop 1 os))

pub pieces-get_or : (ns ts ls ms os : List ℕ) (i : ℕ) → i < length ns
    → get_or (pieces_of ns ts ls ms os) i no_piece ≡ record {
      number = get_or ns i 0;
      time = get_or ts i 0;
      length = get_or ls i 0;
      more = get_or ms i 0;
      offset = get_or os i 0;
    }
unfolding pieces_of
pieces-get_or [] ts ls ms os i h = absurd (omega arith)
pieces-get_or (n ∷ ns) ts ls ms os zero h = refl
pieces-get_or (n ∷ ns) ts ls ms os (suc i) h =
    let e : 1 + i ≡ suc i = omega arith in
    pieces-get_or ns (drop 1 ts) (drop 1 ls) (drop 1 ms) (drop 1 os) i (omega arith)
    ∙ simp (get_or-drop, e)

-- an arrival of another packet has none of the packet's octets, and does not end it
pub octet-of : (s o : ℕ) (a : Piece) → (a.number ≡ s → ⊥) → has_octet s o a ≡ false
unfolding has_octet
octet-of s o a h = rw ne_eqb

pub ends_of : (s r : ℕ) (a : Piece) → (a.number ≡ s → ⊥) → ends_by s r a ≡ false
unfolding ends_by
ends_of s r a h = rw ne_eqb
