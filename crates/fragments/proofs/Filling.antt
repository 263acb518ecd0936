-- One turn of the loop that fills the two lists, on plain values. l are the arrivals, a is the arrival at i, `copy` tells whether it is a
-- copy, and e is what is expected before it. By `each_at` the values stored at i are those of the definitions (`flag-here`,
-- `usable-here`; w is the table's value for the packet). `expected-more` gives what is expected after it (`expected-here`). Assumes
-- nothing.
use Prim.Native.Nat.{ℕ, ◌+◌, ◌<◌}
use mathlib.Core.Bool.{Bool, true, false, cond, not, ◌&&◌}
use mathlib.Core.Path.{◌≡◌, refl, sym, ap, ◌∙◌}
use mathlib.Core.List.{List, [], ◌∷◌, ◌++◌, flatten}
use lib.ListN.{length, get_or, take}
use Rattle.rfc4737.specs.Arrivals.{each, each_after}
use Rattle.rfc4737.specs.Numbering.{in_order_number, reordered_after_number, duplicate_number}
use Rattle.rfc4737.proofs.Arrivals.{take_more, length-each}
use Rattle.fragments.specs.declared.Piece.{Piece}
use Rattle.fragments.specs.declared.Expected.{Expected}
use Rattle.fragments.specs.Pieces.{is_copy, no_copies}
use Rattle.fragments.specs.Order.{at_start, is_reordered_fragment, expected_after, expected, flag_after, flags}
use Rattle.fragments.specs.Usable.{complete, usable_after, usable}
use Rattle.fragments.specs.Private.{no_piece}
use Rattle.fragments.proofs.Judged.{each_at}
use Rattle.fragments.proofs.Whole.{expected-more}

pub flags-many : (l : List Piece) → length (flags l) ≡ length l
unfolding flags
flags-many l = length-each flag_after l

pub usable-many : (l : List Piece) → length (usable l) ≡ length l
unfolding usable
usable-many l = length-each (usable_after l) l

module _ (l : List Piece) (i : ℕ) (a : Piece) (e : Expected) (copy : Bool) (h : i < length l) (here : a ≡ get_or l i no_piece)
    (c : copy ≡ is_copy (take i l) a) (x : e ≡ expected (take i l)) where
  pub flag-here : (r : ℕ) → r ≡ cond copy duplicate_number (cond (is_reordered_fragment e a) reordered_after_number in_order_number)
      → r ≡ get_or (flags l) i 0
  unfolding flags each flag_after
  flag-here r q = q ∙ rw (c, x) refl ∙ ap (flag_after (take i l)) here ∙ sym (each_at flag_after l i h)

  pub usable-here : (r w : ℕ) → r ≡ cond copy 0 w → w ≡ cond (complete l a.number) 1 0 → r ≡ get_or (usable l) i 0
  unfolding usable each usable_after
  usable-here r w q v =
      q ∙ rw (c, v) (go (is_copy (take i l) a) (complete l a.number)) ∙ ap (usable_after l (take i l)) here
      ∙ sym (each_at (usable_after l) l i h)
    where
      go : (t u : Bool) → ◌≡◌ {A = ℕ} (cond t 0 (cond u 1 0)) (cond (not t && u) 1 0)
      go true u = refl
      go false u = refl

  pub expected-here : (n : Expected) → n ≡ cond copy e (expected_after e a) → n ≡ expected (take (i + 1) l)
  expected-here n q =
      q ∙ rw (c, x) refl ∙ sym (expected-more (take i l) a) ∙ ap expected
      (ap (λ (b : Piece). take i l ++ (b ∷ [])) here ∙ sym (take_more no_piece l i h))

pub expected-none : at_start ≡ expected []
unfolding expected no_copies each each_after flatten
expected-none = refl
