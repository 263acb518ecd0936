-- `disorder::pairs::pairs_after` meets its contract: a copy changes nothing. `paired-more` gives tree and pairs after the next first
-- arrival. If its number is above the greatest so far, it makes no wrong pair and becomes the greatest. Else the tree gives the number of
-- lower numbers (`lower-sum`). Nothing wraps, since there are fewer than 4,096 first arrivals so far. q are the pairs so far. Assumes
-- nothing.
use Rattle.std.proofs.Common.{arith, sym, ap, ◌≡◌, ◌∙◌, ◌+◌, ◌-◌, ◌≤◌, ◌<◌, length}
use Rattle.rfc4737.specs.Extent.{byte_offset}
use Rattle.sums.specs.Tree.{sum_to}
use Rattle.disorder.proofs.DisorderInFile.{lower-sum, paired-more}
use Rattle.disorder.proofs.pairs.pairs_after.Goals as goal

pub returns-then-arrived : goal.returns-then-arrived
returns-then-arrived c = λ k fs a e h. rw c.if-arrived.true h

pub returns-then-p-number : goal.returns-then-p-number
returns-then-p-number c =
    let p = c.requires in
    let q = c.args.p in
    λ k fs a e h.
    let up : q.greatest ≤ a.number = omega (arith, e, c.if-p-number.true) in
    let own : a.number ≤ a.number = omega arith in
    let is : q.wrong ≡ q.wrong + byte_offset (λ _. 1) fs a.number = omega (arith, h.above a.number up) in
    rw (c.if-arrived.false, ← e)
    (paired-more k fs a _ _ _ (rw (← e) at p.0) p.2.few h (rw (← e) at c.add.ensures) q.wrong a.number is up own)

pub overflow_sub-result : goal.overflow_sub-result
overflow_sub-result c =
    let k = c.requires.2 in
    omega (arith, c.sum_to-lower.ensures.value, lower-sum _ _ _ _ k.paired k.few c.args.number c.requires.1)

pub returns : goal.returns
returns c =
    let p = c.requires in
    let q = c.args.p in
    let tree = c.args.counts.now in
    λ k fs a e h.
    let up : q.greatest ≤ q.greatest = omega arith in
    let own : a.number ≤ q.greatest = omega (arith, e, c.if-p-number.false) in
    let w = q.wrong + (q.count - c.sum_to-lower.result) in
    let inside : a.number < length tree = omega (arith, e, p.1) in
    let lower : c.sum_to-lower.result ≡ sum_to tree a.number = c.sum_to-lower.ensures.value ∙ ap (sum_to tree) (sym e) in
    let is : w ≡ q.wrong + byte_offset (λ _. 1) fs a.number =
    omega (arith, lower, lower-sum k fs tree q h p.2.few a.number inside) in
    rw c.if-arrived.false
    (paired-more k fs a _ _ _ (rw (← e) at p.0) p.2.few h (rw (← e) at c.add-2.ensures) w q.greatest is up own)
