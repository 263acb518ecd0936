-- Laws of tables and of numbers. After a store an element is what was stored, or what it was (`stored`). The arrivals have the numbers of
-- the list of numbers (`pieces-number`), so these lie where the list's do (`piece-within`).
-- Here d is a table, p and q are its places, v is what is stored; ns, ts, ls, ms and os are the five lists. Assumes nothing.
use Prim.Native.Nat.{ℕ, ◌≤◌, ◌<◌}
use native.Mathlib.Omega.{arith}
use mathlib.Core.Bool.{Bool, true, false}
use mathlib.Core.Path.{◌≡◌, refl, ap}
use mathlib.Core.List.{List}
use borrow.Author.Tests.{eqb-true, eqb-false}
use lib.Dec.{eqb}
use lib.ListN.{length, get_or, set}
use lib.Seq.{get_or-set_same, get_or-set_other}
use Rattle.fragments.specs.declared.Piece.{Piece}
use Rattle.fragments.specs.Pieces.{pieces_of}
use Rattle.fragments.specs.Private.{no_piece, NumbersWithin}
use Rattle.fragments.proofs.Laws.{pieces-length, pieces-get_or}

-- an element after a store; z is what is read past the end
pub stored_in : {A : Type 0} (z : A) (d : List A) (p q : ℕ) (v : A) → p < length d → (P : A → Type 0) → (q ≡ p → P v)
    → ((q ≡ p → ⊥) → P (get_or d q z)) → P (get_or (set d p v) q z)
stored_in {A} z d p q v h P f g = go (eqb q p) refl
  where
    go : (t : Bool) → eqb q p ≡ t → P (get_or (set d p v) q z)
    go true e = let k : q ≡ p = eqb-true q p e in rw (k, get_or-set_same d p v z h) (f k)
    go false e = rw (get_or-set_other d p q v z (eqb-false q p e)) (g (eqb-false q p e))

pub stored : (d : List ℕ) (p q v : ℕ) → p < length d → (P : ℕ → Type 0) → (q ≡ p → P v) → ((q ≡ p → ⊥) → P (get_or d q 0))
    → P (get_or (set d p v) q 0)
stored d p q v h P f g = stored_in 0 d p q v h P f g

-- ---- the arrivals of the lists

pub pieces-number : (ns ts ls ms os : List ℕ) (j : ℕ) → j < length (pieces_of ns ts ls ms os)
    → (get_or (pieces_of ns ts ls ms os) j no_piece).number ≡ get_or ns j 0
pieces-number ns ts ls ms os j h =
    let e = pieces-length ns ts ls ms os in
    ap (λ (a : Piece). a.number) (pieces-get_or ns ts ls ms os j (omega arith))

module _ (k : ℕ) (ns ts ls ms os : List ℕ) (n : NumbersWithin k ns) where
  -- an arrival's number lies in 1 to k
  pub piece-within : (j : ℕ) → j < length (pieces_of ns ts ls ms os)
      → (1 ≤ (get_or (pieces_of ns ts ls ms os) j no_piece).number) × ((get_or (pieces_of ns ts ls ms os) j no_piece).number ≤ k)
  piece-within j h = rw (pieces-number ns ts ls ms os j h) (n.at j (omega (arith, pieces-length ns ts ls ms os)))
