-- A copy leaves all (`shared-copy`); a packet in order has the largest n 0 (`shared-in-order`); a reordered one is linked by its own
-- (`shared-late`). Assumes nothing.
use Rattle.metrics.proofs.Shares.{shared-copy, shared-in-order, shared-late}
use Rattle.metrics.proofs.figures.shares_after.Goals as goal

pub returns-then-links-packet-ne0 : goal.returns-then-links-packet-ne0
returns-then-links-packet-ne0 c =
    let p = c.requires in shared-copy _ _ _ p.0 _ _ _ c.if-links-packet-ne0.true

pub returns-then-shares-number : goal.returns-then-shares-number
returns-then-shares-number c =
    let p = c.requires in
    shared-in-order _ _ _ p.0 _ _ _ c.if-links-packet-ne0.false p.1 c.if-shares-number.true

pub returns : goal.returns
returns c =
    let p = c.requires in
    shared-late _ _ _ p.0 _ _ _ c.if-links-packet-ne0.false p.1 c.if-shares-number.false _ c.largest_by_links-largest.ensures.1 _ _
    c.n_reordered_after.ensures c.n_reordered_after-2.ensures
