-- `cases::lists::fill`: the elements up to i are the numbers of the text.
use Rattle.std.proofs.Common.{◌≡◌, ◌<◌, ℕ, get_or}
use Rattle.cases.specs.Text.{numbers_in}
use Rattle.cases.proofs.lists.fill.Given as goal

abbrev pub invariant-loop-i : goal.invariant-loop-i
invariant-loop-i g l = (k : ℕ) (d : _) → k < l.i → get_or l.element-items k d ≡ g.T.Element.cut_to (get_or (numbers_in l.fn.text) k 0)
