-- Moving the clock does not change the sweep. The answer and the memory after it depend only on the layout, on the start of the table and
-- on the answers (`alike`). These are the same for the moved sample: the answers by rfc4737's `answers-moved`, and the number of
-- arrivals. So is whether the table or a list is too short. c is the amount, s the sample, d and e are two decoded files, y is the call's
-- answer. Assumes nothing.
use Prim.Native.Nat.{ℕ}
use mathlib.Core.Path.{◌≡◌, refl, sym, ap, subst, ◌∙◌}
use mathlib.Core.Bool.{Bool, true, false}
use mathlib.Core.List.{List}
use mathlib.Core.Logic.{◌↔◌}
use lib.ListN.{length, length-map}
use Rattle.octets.specs.Below.{Octets}
use Rattle.octets.specs.Memory.{over}
use Rattle.rfc4737.specs.declared.Answer.{Answer}
use Rattle.rfc4737.specs.Extent.{size_in}
use Rattle.rfc4737.specs.Moved.{moved_one}
use Rattle.rfc4737.proofs.Moved.{answers-moved}
use Rattle.sample.specs.declared.Layout.{Layout}
use Rattle.sample.specs.Format.{Sample}
use Rattle.sample.specs.Decode.{Decoded, accepted, layout_of}
use Rattle.sample.specs.Calls.{unless_short}
use Rattle.sample.specs.Moved.{moved_sample}
use Rattle.sample.proofs.Moved.{moved-accepted}
use Rattle.metrics.specs.Sample.{answers_of}
use Rattle.sweep.specs.Figures.{flags_of, positions_of, extents_of, lates_of}
use Rattle.sweep.specs.Calls.{Lent, lent_short, lent_short_for, cleared, Swept, SweptTo, SweepMoved}

-- all that the sweep takes of a decoded file is the same of two
record Same (d e : Decoded) : Type 0 where
  layout : layout_of d ≡ layout_of e
  table : cleared d ≡ cleared e
  answers : answers_of d ≡ answers_of e

-- then it answers and leaves the same
alike : {d e : Decoded} → Same d e → {old new : Lent} {y : Layout} → Swept d old y new → Swept e old y new
alike k {old} h =
    record {
      layout = h.layout ∙ k.layout;
      table = h.table ∙ ap (λ (l : List ℕ). over l old.table) k.table;
      flags = h.flags ∙ ap (λ (m : List Answer). over (flags_of m) old.flags) k.answers;
      positions = h.positions ∙ ap (λ (m : List Answer). over (positions_of m) old.positions) k.answers;
      extents = h.extents ∙ ap (λ (m : List Answer). over (extents_of m) old.extents) k.answers;
      lates = h.lates ∙ ap (λ (m : List Answer). over (lates_of m) old.lates) k.answers;
    }

back : {d e : Decoded} → Same d e → Same e d
back k = record { layout = sym k.layout; table = sym k.table; answers = sym k.answers }

module _ (c : ℕ) (s : Sample) where
  -- as many arrivals
  many : length (moved_sample c s).arrivals ≡ length s.arrivals
  many = length-map s.arrivals (moved_one c)

  -- whether what is lent is too short or not
  same-short : (short : Bool) → Same (unless_short short (accepted (moved_sample c s))) (unless_short short (accepted s))
  unfolding unless_short
  same-short true = record { layout = refl; table = refl; answers = refl }
  same-short false =
      record {
        layout = ap (λ (n : ℕ). record { refusal = 0; label = length s.label; sent = length s.sizes; arrivals = n }) many;
        table = refl;
        answers = answers-moved c (size_in s.sizes) s.arrivals;
      }

  same : (old : Lent)
      → Same (unless_short (lent_short_for (accepted (moved_sample c s)) old) (accepted (moved_sample c s)))
      (unless_short (lent_short_for (accepted s) old) (accepted s))
  same old =
      subst (λ (short : Bool). Same (unless_short short (accepted (moved_sample c s)))
      (unless_short (lent_short_for (accepted s) old) (accepted s)))
      (ap (λ (n : ℕ). lent_short n (length old.table) (length old.flags) (length old.positions) (length old.extents)
      (length old.lates)) (sym many))
      (same-short (lent_short_for (accepted s) old))

-- as `sweep` carries it, of a file of octets
pub sweep-moved : (file : List ℕ) → Octets file → SweepMoved file
sweep-moved file o s c e t old new y =
    subst (λ (p : Decoded × Decoded). SweptTo p.0 old y new ↔ SweptTo p.1 old y new)
    (λ i. (sym (moved-accepted file o s c e t) i, sym e i))
    (alike (same c s old), alike (back (same c s old)))
