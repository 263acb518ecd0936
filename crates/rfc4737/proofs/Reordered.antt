-- Every reordered packet has a discontinuity (`reordered-discontinuity`), which is a jump and so stands at one of the positions before it:
-- the extent is at least 1. Its byte offset is at most the greatest size for each first arrival before it (`offset-le`), and of these there
-- are at most 4,095. The answer is split by the two tests that it is made by: a duplicate and an in-order packet are not reordered.
-- Here `earlier` are the arrivals before a, f its figures, e says that its answer is that of a reordered packet. Assumes nothing.
use Prim.Native.Nat.{ℕ, ◌+◌, ◌-◌, ◌≤◌, ◌<◌}
use native.Mathlib.Omega.{arith}
use mathlib.Core.Bool.{Bool, true, false, cond}
use mathlib.Core.List.{List}
use mathlib.Core.Path.{◌≡◌, refl, sym, ap, ◌∙◌}
use lib.ListN.{length}
use Rattle.rfc4737.specs.declared.Arrival.{Arrival}
use Rattle.rfc4737.specs.declared.Answer.{Answer}
use Rattle.rfc4737.specs.declared.Answer.TheVariants.{Duplicate, InOrder, Reordered}
use Rattle.rfc4737.specs.declared.ReorderedFigures.{ReorderedFigures}
use Rattle.rfc4737.specs.Arrivals.{has, firsts, first_record}
use Rattle.rfc4737.specs.Order.{is_in_order}
use Rattle.rfc4737.specs.Extent.{discontinuity, extent_from, byte_offset}
use Rattle.rfc4737.specs.Answer.{in_order_answer, reordered_answer, first_answer, answer_to}
use Rattle.rfc4737.specs.Judge.{arrivals_most}
use Rattle.rfc4737.specs.Reordered.{size_most, offset_most, HasDiscontinuity, ReorderedHaveDiscontinuity, OffsetsBounded, FiguresBounded}
use Rattle.rfc4737.proofs.Arrivals.{has-firsts, length-firsts}
use Rattle.rfc4737.proofs.Folds.{offset-le}
use Rattle.rfc4737.proofs.Lists.{all-member}
use Rattle.rfc4737.proofs.Jumps.{Within, jumps-within, reordered-discontinuity}

-- the extent and the byte offset of a reordered packet, and 1 for one; 0 for any other answer
abbrev extent_of : Answer → ℕ
extent_of (Duplicate d) = 0
extent_of (InOrder d) = 0
extent_of (Reordered d) = d.extent

abbrev offset_of : Answer → ℕ
offset_of (Duplicate d) = 0
offset_of (InOrder d) = 0
offset_of (Reordered d) = d.offset

abbrev late : Answer → ℕ
late (Duplicate d) = 0
late (InOrder d) = 0
late (Reordered d) = 1

module _ (size : ℕ → ℕ) (earlier : List Arrival) (a : Arrival) where
  -- the first arrivals before it
  abbrev fs : List Arrival
  fs = firsts earlier

  -- the answer by its two tests
  abbrev answer_by : Bool → Bool → Answer
  answer_by t u =
      cond t (Duplicate (record { first = first_record a.number earlier }))
      (cond u (in_order_answer fs a) (reordered_answer size fs a (discontinuity fs a.number)))

  -- that of a reordered packet passes neither
  found : 1 ≤ a.number → (f : ReorderedFigures) (t u : Bool) → has a.number earlier ≡ t → is_in_order fs a.number ≡ u
      → answer_by t u ≡ Reordered f → HasDiscontinuity earlier a f
  unfolding in_order_answer reordered_answer extent_from
  found low f true u p q e = let z : ◌≡◌ {A = ℕ} 0 1 = ap late e in absurd (omega arith)
  found low f false true p q e = let z : ◌≡◌ {A = ℕ} 0 1 = ap late e in absurd (omega arith)
  found low f false false p q e =
      let d = reordered-discontinuity a.number low fs (has-firsts a.number earlier ∙ p) q in
      let w : Within fs d.at = all-member (Within fs) d.jump (jumps-within fs) in
      let x : extent_from (length fs + 1) (discontinuity fs a.number) ≡ f.extent = ap extent_of e in
      let y : length fs + 1 - d.at.position ≡ f.extent = sym (ap (extent_from (length fs + 1)) d.is) ∙ x in
      record { at = d.at; is = d.is; extent = omega (arith, w.position-high, y) }

  module _ (small : (s : ℕ) → size s ≤ size_most) (few : length earlier < arrivals_most) where
    bounded : (f : ReorderedFigures) (t u : Bool) → answer_by t u ≡ Reordered f → f.offset ≤ offset_most
    unfolding in_order_answer reordered_answer
    bounded f true u e = let z : ◌≡◌ {A = ℕ} 0 1 = ap late e in absurd (omega arith)
    bounded f false true e = let z : ◌≡◌ {A = ℕ} 0 1 = ap late e in absurd (omega arith)
    bounded f false false e =
        let x : byte_offset size fs a.number ≡ f.offset = ap offset_of e in
        omega (arith, x, offset-le size size_most small fs a.number, length-firsts earlier)

pub reordered-found : ReorderedHaveDiscontinuity
unfolding answer_to first_answer
reordered-found size earlier a f low e =
    found size earlier a low f (has a.number earlier) (is_in_order (firsts earlier) a.number) refl refl e

pub offsets-bounded : OffsetsBounded
unfolding answer_to first_answer
offsets-bounded size small earlier a f few e =
    bounded size earlier a small few f (has a.number earlier) (is_in_order (firsts earlier) a.number) e

-- so the answer for any arrival of a packet is bounded
pub figures-bounded : (size : ℕ → ℕ) → ((s : ℕ) → size s ≤ size_most) → (earlier : List Arrival) (a : Arrival)
    → length earlier < arrivals_most
    → 1 ≤ a.number → FiguresBounded (answer_to size earlier a)
figures-bounded size small earlier a few low = go (answer_to size earlier a) refl
  where
    go : (r : Answer) → answer_to size earlier a ≡ r → FiguresBounded r
    go (Duplicate d) e = tt
    go (InOrder d) e = tt
    go (Reordered f) e = ((reordered-found size earlier a f low e).extent, offsets-bounded size small earlier a f few e)
