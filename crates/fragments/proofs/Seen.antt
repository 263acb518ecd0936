-- Whole packets that were seen. After i arrivals the table holds for each packet whether one of these is a whole packet of it. The next
-- arrival changes the entry of its own packet alone, and only if it is whole (`seen_next`).
-- Here l are the arrivals, a is the one at i, s a packet, d the table. Assumes nothing.
use Prim.Native.Nat.{ℕ, ◌+◌, ◌-◌, ◌≤◌, ◌<◌}
use native.Mathlib.Omega.{arith}
use mathlib.Core.Bool.{Bool, true, false, ◌||◌, or-false}
use mathlib.Core.List.{List}
use mathlib.Core.Path.{◌≡◌, refl, sym, ap, ◌∙◌}
use lib.ListN.{length, get_or, take, set, length-set, replicate, length-replicate, get_or-replicate}
use borrow.Author.Tests.{eq-eqb, ne_eqb}
use Rattle.octets.proofs.Memory.{take_snoc}
use Rattle.rfc4737.specs.Judge.{sent_most}
use Rattle.fragments.specs.declared.Piece.{Piece}
use Rattle.fragments.specs.Pieces.{any, is_whole}
use Rattle.fragments.specs.Private.{no_piece}
use Rattle.fragments.specs.Places.{whole_of}
use Rattle.fragments.proofs.Laws.{any-more}
use Rattle.fragments.proofs.Numbers.{stored_in}

pub record SeenTo (l : List Piece) (i : ℕ) (d : List Bool) : Type 0 where
  pub long : length d ≡ sent_most
  pub at : (s : ℕ) → 1 ≤ s → s ≤ sent_most → get_or d (s - 1) false ≡ any (whole_of s) (take i l)

pub seen_start : (l : List Piece) → SeenTo l 0 (replicate sent_most false)
unfolding any
seen_start l = record {
  long = length-replicate {A = Bool} sent_most false;
  at = λ s h g. get_or-replicate sent_most (s - 1) false false (omega arith);
}

is-own : (s : ℕ) (a : Piece) → s ≡ a.number → whole_of s a ≡ is_whole a
unfolding whole_of
is-own s a z = rw (eq-eqb a.number s (sym z))

not_own : (s : ℕ) (a : Piece) → (s ≡ a.number → ⊥) → whole_of s a ≡ false
unfolding whole_of
not_own s a z = rw (ne_eqb a.number s (λ q. z (sym q)))

pub seen_next : (l : List Piece) (i : ℕ) (v : Bool) (a : Piece) {d : List Bool} → i < length l → a ≡ get_or l i no_piece → 1 ≤ a.number
    → a.number ≤ sent_most
    → v ≡ (is_whole a || get_or d (a.number - 1) false) → SeenTo l i d → SeenTo l (i + 1) (set d (a.number - 1) v)
seen_next l i v a {d} h here lo hi e t = record {
  long = length-set d (a.number - 1) v ∙ t.long;
  at = λ s u w.
      stored_in false d (a.number - 1) (s - 1) v (omega (arith, t.long)) (λ (x : Bool). x ≡ any (whole_of s) (take (i + 1) l))
      (λ q. let z : s ≡ a.number = omega (arith, q) in own s u w z)
      (λ q. other s u w (λ z. q (ap (λ (x : ℕ). x - 1) z)));
}
  where
    more : (s : ℕ) → any (whole_of s) (take (i + 1) l) ≡ (any (whole_of s) (take i l) || whole_of s a)
    more s =
        ap (any (whole_of s)) (take_snoc l i no_piece h) ∙ any-more (whole_of s) (take i l) (get_or l i no_piece)
        ∙ ap (λ (b : Piece). any (whole_of s) (take i l) || whole_of s b) (sym here)

    either : (w o : Bool) → (w || o) ≡ (o || w)
    either true true = refl
    either true false = refl
    either false true = refl
    either false false = refl

    own : (s : ℕ) → 1 ≤ s → s ≤ sent_most → s ≡ a.number → v ≡ any (whole_of s) (take (i + 1) l)
    own s u w z =
        e ∙ ap (λ (x : ℕ). is_whole a || get_or d (x - 1) false) (sym z) ∙ ap (λ (x : Bool). is_whole a || x) (t.at s u w)
        ∙ either (is_whole a) (any (whole_of s) (take i l))
        ∙ sym (more s ∙ ap (λ (b : Bool). any (whole_of s) (take i l) || b) (is-own s a z))

    other : (s : ℕ) → 1 ≤ s → s ≤ sent_most → (s ≡ a.number → ⊥) → get_or d (s - 1) false ≡ any (whole_of s) (take (i + 1) l)
    other s u w z =
        t.at s u w ∙ sym (more s ∙ ap (λ (b : Bool). any (whole_of s) (take i l) || b) (not_own s a z)
        ∙ or-false (any (whole_of s) (take i l)))
