-- `follow::line` meets its contract: the text of the line is written if `out` has room, and else the receiver is as it was (`line-short`,
-- `line-written`). Assumes nothing.
use Rattle.follow.proofs.Laws.{line-room, line-short, line-written}
use Rattle.follow.proofs.line.Goals as goal

pub returns-then-written-ne0-clause-followed_to : goal.returns-then-written-ne0-clause-followed_to
returns-then-written-ne0-clause-followed_to c =
    line-short c.args.state c.read_line-read.ensures c.step_line-step.ensures c.line_text-written.ensures.output c.if-written-ne0.true

pub returns-then-written-ne0-clause-room : goal.returns-then-written-ne0-clause-room
returns-then-written-ne0-clause-room c =
    line-room c.args.state c.read_line-read.ensures c.step_line-step.ensures c.line_text-written.ensures.output c.line_text-written.ensures.room

pub returns-clause-followed_to : goal.returns-clause-followed_to
returns-clause-followed_to c =
    line-written c.args.state c.read_line-read.ensures c.step_line-step.ensures c.line_text-written.ensures.output c.if-written-ne0.false

pub returns-clause-room : goal.returns-clause-room
returns-clause-room c =
    line-room c.args.state c.read_line-read.ensures c.step_line-step.ensures c.line_text-written.ensures.output c.line_text-written.ensures.room
