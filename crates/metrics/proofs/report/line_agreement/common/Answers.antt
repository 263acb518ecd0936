-- An equal octet moves i on (`common-step`); where one text ends they have no more in common. Assumes nothing.
use Prim.Native.Nat.{ℕ, ◌+◌}
use Rattle.metrics.proofs.Common.{common-cut, common-end, common-step, common-stop}
use Rattle.metrics.specs.Agreement.{common}
use Rattle.std.specs.Prelude.{min}
use borrow.Author.Tests.{leb-false, leb-true}
use lib.Dec.{leb}
use lib.ListN.{drop, length}
use mathlib.Core.Bool.{Bool, false, true}
use mathlib.Core.List.{List}
use mathlib.Core.Path.{refl, sym, ◌∙◌, ◌≡◌}
use native.Mathlib.Nat.{zero-add}
use native.Mathlib.Omega.{arith}
use Rattle.metrics.proofs.report.line_agreement.common.Goals as goal

short : (one other : List ℕ) (i : ℕ) → i ≡ min (length one) (length other) → i + common (drop i one) (drop i other) ≡ i
short one other i e = go (leb (length other) i) refl
  where
    go : (t : Bool) → leb (length other) i ≡ t → i + common (drop i one) (drop i other) ≡ i
    go true u = common-cut one other i (omega (arith, leb-true (length other) i u))
    go false u = common-end one other i (omega (arith, leb-false (length other) i u))

pub loop-i-init : goal.loop-i-init
loop-i-init c = sym (zero-add _)

pub returns-then-one-i : goal.returns-then-one-i
returns-then-one-i c =
    let l = c.loop-i in
    sym (l.invariant ∙ common-stop _ _ l.i (omega arith) (omega arith) c.if-one-i.true)

pub loop-i-preserved : goal.loop-i-preserved
loop-i-preserved c =
    let l = c.loop-i in
    l.invariant ∙ common-step _ _ l.i (omega arith) (omega arith) c.if-one-i.false

pub returns : goal.returns
returns c =
    let e : c.loop-i.i ≡ c.min-shorter.result = omega arith in
    sym (c.loop-i.invariant ∙ short _ _ _ (e ∙ c.min-shorter.ensures) ∙ e)
