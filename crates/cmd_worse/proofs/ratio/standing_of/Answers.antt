-- `cmd_worse::ratio::standing_of` meets its contract: each call of `greater` is a test of the definition (`tested`). f and g are the
-- ratios that the code compares, f' and g' those of the definition, x is what `greater` returns, and t is true or false. Assumes nothing.
use Rattle.std.proofs.Common.{◌≡◌, sym, ap₂, ◌∙◌, Bool}
use Rattle.worse.specs.declared.Fraction.{Fraction}
use Rattle.worse.specs.Worse.{greater}
use Rattle.cmd_worse.specs.Standing.{standing}
use Rattle.cmd_worse.proofs.ratio.standing_of.Goals as goal

tested : {f g f' g' : Fraction} {x t : Bool} → f ≡ f' → g ≡ g' → x ≡ greater f g → x ≡ t → greater f' g' ≡ t
tested e h m p = sym (ap₂ greater e h) ∙ sym m ∙ p

pub returns-then-greater : goal.returns-then-greater
unfolding standing
returns-then-greater c =
    simp (tested c.reordered_ratio-first.ensures c.reordered_ratio-second.ensures c.greater.ensures c.if-greater.true)

-- the first test failed, and the second is made
pub returns-then-greater-2 : goal.returns-then-greater-2
unfolding standing
returns-then-greater-2 c =
    let one = c.reordered_ratio-first.ensures in
    let other = c.reordered_ratio-second.ensures in
    simp (tested one other c.greater.ensures c.if-greater.false, tested other one c.greater-2.ensures c.if-greater-2.true)

pub returns : goal.returns
unfolding standing
returns c =
    let one = c.reordered_ratio-first.ensures in
    let other = c.reordered_ratio-second.ensures in
    simp (tested one other c.greater.ensures c.if-greater.false, tested other one c.greater-2.ensures c.if-greater-2.false)
