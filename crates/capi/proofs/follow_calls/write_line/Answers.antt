-- `capi::follow_calls::write_line` meets its contract: the line is malformed (`line_refused`); or a number is over its 32 bits, or the
-- figures read back are others (`line-unknown`); or they are these (`line_known`). Assumes nothing.
use Rattle.std.proofs.Common.{sym, ◌∙◌}
use Rattle.capi.proofs.Followed.{over-refusal, over-jump, over-extent, by-figures, line_refused, line-unknown, line_known}
use Rattle.capi.proofs.follow_calls.write_line.Goals as goal

pub returns-then-read-ne-NONE : goal.returns-then-read-ne-NONE
returns-then-read-ne-NONE c = line_refused _ _ _ c.if-read-ne-NONE.true _ c.refused_outcome.ensures c.line_text.ensures.output

pub returns-then-refusal-gt-MAX_32 : goal.returns-then-refusal-gt-MAX_32
returns-then-refusal-gt-MAX_32 c =
    line-unknown _ _ _ c.if-read-ne-NONE.false (over-refusal _ _ _ _ _ c.if-refusal-gt-MAX_32.true) _ c.no_outcome.ensures c.args.out.now

pub returns-then-jump-gt-MAX_32 : goal.returns-then-jump-gt-MAX_32
returns-then-jump-gt-MAX_32 c =
    line-unknown _ _ _ c.if-read-ne-NONE.false (over-jump _ _ _ _ _ c.if-refusal-gt-MAX_32.false c.if-jump-gt-MAX_32.true) _
    c.no_outcome-then-jump-gt-MAX_32.ensures c.args.out.now

pub returns-then-extent-gt-MAX_32 : goal.returns-then-extent-gt-MAX_32
returns-then-extent-gt-MAX_32 c =
    line-unknown _ _ _ c.if-read-ne-NONE.false
    (over-extent _ _ _ _ _ c.if-refusal-gt-MAX_32.false c.if-jump-gt-MAX_32.false c.if-extent-gt-MAX_32.true) _
    c.no_outcome-then-extent-gt-MAX_32.ensures c.args.out.now

pub returns-then-are_figures : goal.returns-then-are_figures
returns-then-are_figures c =
    let same =
    by-figures _ _ _ _ _ c.if-refusal-gt-MAX_32.false c.if-jump-gt-MAX_32.false c.if-extent-gt-MAX_32.false _ c.noted_in-noted.ensures in
    line_known _ _ _ c.if-read-ne-NONE.false (sym same ∙ sym c.are_figures.ensures ∙ c.if-are_figures.true) _
    (λ i. record { refusal = c.args.refusal; noted = c.noted_in-noted.ensures i })
    c.line_text-then-are_figures.ensures.output

pub returns : goal.returns
returns c =
    let same =
    by-figures _ _ _ _ _ c.if-refusal-gt-MAX_32.false c.if-jump-gt-MAX_32.false c.if-extent-gt-MAX_32.false _ c.noted_in-noted.ensures in
    line-unknown _ _ _ c.if-read-ne-NONE.false (sym same ∙ sym c.are_figures.ensures ∙ c.if-are_figures.false) _
    c.no_outcome-2.ensures c.args.out.now
