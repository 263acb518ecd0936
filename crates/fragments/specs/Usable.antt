-- Which arrivals are usable in sample figures (RFC 4737, section B.2). Assumes nothing.
use Rattle.std.specs.Prelude.{ℕ, zero, suc, Bool, true, not, cond, ◌&&◌, List, leb, ltb, eqb}
use Rattle.rfc4737.specs.Arrivals.{each}
use Rattle.fragments.specs.declared.Piece.{Piece}
use Rattle.fragments.specs.Pieces.{is_last, piece_start, piece_end, any, is_copy}

-- whether an arrival is of packet s and has its octet o
unfoldable pub has_octet : ℕ → ℕ → Piece → Bool
has_octet s o a = eqb a.number s && (leb (piece_start a) o && ltb o (piece_end a))

-- whether every number below n passes a test
unfoldable pub every_below : ℕ → (ℕ → Bool) → Bool
every_below zero p = true
every_below (suc n) p = every_below n p && p n

-- whether packet s's arrivals cover every octet below n
unfoldable pub covered : List Piece → ℕ → ℕ → Bool
covered l s n = every_below n (λ (o : ℕ). any (has_octet s o) l)

-- whether packet s's arrivals cover every octet before the end of one of its last fragments
unfoldable pub complete : List Piece → ℕ → Bool
complete l s = any (λ (a : Piece). eqb a.number s && (is_last a && covered l s (piece_end a))) l

-- 1 if an arrival is usable: it is no copy, and its packet is complete; else 0
unfoldable pub usable_after : List Piece → List Piece → Piece → ℕ
usable_after l earlier a = cond (not (is_copy earlier a) && complete l a.number) 1 0

-- which of the arrivals are usable
unfoldable pub usable : List Piece → List ℕ
usable l = each (usable_after l) l
