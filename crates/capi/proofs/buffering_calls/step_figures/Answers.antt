-- `capi::buffering_calls::step_figures` meets its contract: a turn stores the next count (`copy-next`), and after the loop the counts are
-- all there, with nothing after them. Assumes nothing.
use Rattle.std.proofs.Common.{arith, refl, ◌≡◌, ◌∙◌, ◌+◌, ◌∷◌, ◌++◌, ap, List, ℕ, [], drop, length, replicate}
use mathlib.Core.List.{append-nil}
use Rattle.octets.specs.Memory.{splice}
use Rattle.octets.proofs.Memory.{copy_start, copy-next, copy_done}
use Rattle.metrics.specs.Figures.{step_count}
use Rattle.capi.proofs.buffering_calls.step_figures.Goals as goal

-- the figures before the loop
abbrev empty : ℕ → ℕ → List ℕ
empty arrived greatest = arrived ∷ greatest ∷ replicate step_count 0

-- after the loop
told : (arrived greatest : ℕ) (counts figures : List ℕ) → length counts ≡ step_count
    → figures ≡ splice 2 counts (empty arrived greatest) → figures ≡ arrived ∷ greatest ∷ counts
told arrived greatest counts figures n e =
    let none : drop (2 + length counts) (empty arrived greatest) ≡ [] = rw n refl in
    e ∙ ap (λ (l : List ℕ). arrived ∷ greatest ∷ (counts ++ l)) none ∙ ap (λ (l : List ℕ). arrived ∷ greatest ∷ l) (append-nil counts)

pub loop-j-init : goal.loop-j-init
loop-j-init c = copy_start 2 c.args.counts (empty c.args.arrived c.args.greatest)

pub loop-j-preserved : goal.loop-j-preserved
loop-j-preserved c =
    let a = c.args in
    copy-next 2 a.counts (empty a.arrived a.greatest) c.loop-j.j 0 (omega arith) (omega (arith, c.requires)) c.loop-j.invariant refl

pub returns : goal.returns
returns c =
    let a = c.args in
    told a.arrived a.greatest a.counts c.loop-j.figures c.requires
    (copy_done 2 a.counts (empty a.arrived a.greatest) c.loop-j.j (omega (arith, c.requires)) c.loop-j.invariant)
