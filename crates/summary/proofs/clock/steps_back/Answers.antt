-- `summary::clock::steps_back` meets its contract: the arrivals left begin with record i + 1 (`back-next`), or there are none (`back_end`).
-- Assumes nothing.
use Rattle.std.proofs.Common.{◌≡◌, sym, ◌∙◌}
use borrow.Author.Tests.{lt-ltb, le-ltb}
use Rattle.sample.specs.Decode.{decode}
use Rattle.metrics.specs.Records.{arrival_at}
use Rattle.metrics.proofs.FoundInFile.{arrival-known}
use Rattle.summary.proofs.Back.{back-next, back_end}
use Rattle.summary.proofs.clock.steps_back.Goals as goal

pub returns-then-time-last : goal.returns-then-time-last
returns-then-time-last c =
    let l = c.loop-i in
    let known : c.arrival-time.result ≡ arrival_at (decode c.args.file.now) l.i =
    (arrival-known _ _ c.requires _ c.loop-i-test.true c.arrival-time.ensures.sample).0 in
    sym (l.invariant ∙ back-next _ _ c.requires l.i l.last c.loop-i-test.true c.arrival-time.result known
    ∙ rw (lt-ltb _ _ c.if-time-last.true))

pub loop-i-preserved : goal.loop-i-preserved
loop-i-preserved c =
    let l = c.loop-i in
    let known : c.arrival-time.result ≡ arrival_at (decode c.args.file.now) l.i =
    (arrival-known _ _ c.requires _ c.loop-i-test.true c.arrival-time.ensures.sample).0 in
    l.invariant ∙ back-next _ _ c.requires l.i l.last c.loop-i-test.true c.arrival-time.result known ∙ rw (le-ltb _ _ c.if-time-last.false)

pub returns : goal.returns
returns c =
    let l = c.loop-i in
    sym (l.invariant ∙ back_end _ _ c.requires l.i l.last c.loop-i-test.false)
