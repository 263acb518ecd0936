use Rattle.std.proofs.Common.{◌≡◌, arith, le-ltb, lt-ltb}
use Rattle.sums.specs.Tree.{sum_to}
use Rattle.sums.proofs.Lowest.{rest-low}
use Rattle.sums.proofs.Summed.{parts_first, parts_none}
use Rattle.sums.proofs.Exact.{sum-exact}
use Rattle.sums.proofs.sum_to.Goals as goal

pub returns-then-tree-i-clause-value : goal.returns-then-tree-i-clause-value
unfolding sum_to
returns-then-tree-i-clause-value c = simp (le-ltb _ _ c.if-tree-i.true)

pub loop-i-smaller : goal.loop-i-smaller
loop-i-smaller c = omega (arith, c.rest-i.ensures, rest-low c.loop-i.i)

pub loop-i-preserved : goal.loop-i-preserved
loop-i-preserved c =
    let first = parts_first c.args.tree.now c.loop-i.i (omega arith) in
    rw c.rest-i.ensures (omega (arith, rest-low c.loop-i.i), omega arith, omega (arith, c.loop-i.invariant.2, first))

-- nothing is left
pub returns : goal.returns
unfolding sum_to
returns c =
    let zero : c.loop-i.i ≡ 0 = omega arith in
    let end = rw (zero, parts_none c.args.tree.now) at c.loop-i.invariant.2 in
    let e : c.loop-i.sum ≡ sum_to c.args.tree.now c.args.number =
    simp (lt-ltb _ _ c.if-tree-i.false) (omega (arith, end, c.loop-i.invariant.1)) in
    record { value = e; exact = sum-exact c.args.tree.now c.args.number e }
