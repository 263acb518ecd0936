-- A packet with a record is a copy, and all stays (`noted-copy`); below NextExp it is reordered, and its largest n replaces its
-- discontinuity (`noted-reordered`); else it is in order, and the entries of the packets that it skips are filled (`noted-in-order`).
-- There are fewer first arrivals than places (`noting-few`). Assumes nothing.
use Rattle.metrics.proofs.NotingArrivals.{noted-copy, noted-in-order, noted-reordered, noting-few}
use native.Mathlib.Omega.{arith}
use Rattle.metrics.proofs.engine.seen.Seen.note.Goals as goal

pub returns-then-self-packet-ne0 : goal.returns-then-self-packet-ne0
returns-then-self-packet-ne0 c =
    let p = c.requires.next in λ numbers. noted-copy _ _ numbers _ _ _ p.few _ p.low p.high c.if-self-packet-ne0.true

pub overflow_add-count : goal.overflow_add-count
overflow_add-count c = omega (arith, noting-few _ _ _ _ _ _ c.requires.next)

pub overflow_cast-count : goal.overflow_cast-count
overflow_cast-count c = omega (arith, noting-few _ _ _ _ _ _ c.requires.next)

pub returns-then-number-state : goal.returns-then-number-state
returns-then-number-state c =
    let p = c.requires.next in
    λ numbers. noted-reordered _ _ numbers _ _ _ p.few _ p.low p.high c.if-self-packet-ne0.false c.if-number-state.true

pub returns : goal.returns
returns c =
    let p = c.requires.next in
    λ numbers. noted-in-order _ _ numbers _ _ _ p.few _ p.low p.high c.if-self-packet-ne0.false c.if-number-state.false _ c.note_skipped.ensures
