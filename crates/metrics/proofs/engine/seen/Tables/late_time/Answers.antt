-- The tables lead to the record of the discontinuity (`late-place`, `late-packet`, `late-record`), and its time to the late time
-- (`late-time-of`). Assumes nothing.
use Rattle.metrics.proofs.AnswersByClass.{late-packet, late-place, late-record, late-time-of}
use Rattle.metrics.proofs.TablesFollow.{here}
use native.Mathlib.Omega.{arith}
use Rattle.metrics.proofs.engine.seen.Tables.late_time.Goals as goal

pub overflow_sub-place : goal.overflow_sub-place
overflow_sub-place c =
    let p = c.requires in omega (arith, late-place _ _ _ _ _ (here c.args.file.now.laid c.args.i c.requires.0) p.1 _ _ p.2 p.3)

pub bounds-self-place : goal.bounds-self-place
bounds-self-place c =
    let p = c.requires in omega (arith, late-place _ _ _ _ _ (here c.args.file.now.laid c.args.i c.requires.0) p.1 _ _ p.2 p.3, p.0, c.args.file.now.laid.few)

pub bounds-self-packet : goal.bounds-self-packet
bounds-self-packet c =
    let p = c.requires in omega (arith, late-packet _ _ _ _ _ (here c.args.file.now.laid c.args.i c.requires.0) p.1 _ _ p.2 p.3)

pub overflow_sub-first : goal.overflow_sub-first
overflow_sub-first c =
    let p = c.requires in omega (arith, late-record _ _ _ _ _ (here c.args.file.now.laid c.args.i c.requires.0) p.1 _ _ p.2 p.3)

pub time_of-past-requires : goal.time_of-past-requires
time_of-past-requires c =
    let p = c.requires in omega (arith, late-record _ _ _ _ _ (here c.args.file.now.laid c.args.i c.requires.0) p.1 _ _ p.2 p.3, p.0)

pub returns : goal.returns
returns c =
    let p = c.requires in
    late-time-of _ _ _ _ _ (here c.args.file.now.laid c.args.i c.requires.0) p.1 _ _ p.2 p.3 _ _ _ c.time_of-past.ensures p.4 c.elapsed.ensures
