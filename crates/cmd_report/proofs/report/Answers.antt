-- The text of a refused input is the line of its refusal (`text-refused`), which is short. The text of an accepted input is its report
-- (`text-accepted`, `listed-text`), which has room by the contract of `metrics::listing`. Assumes nothing.
use Rattle.std.proofs.Common.{◌^◌, ◌<◌, arith, sym, ap, ◌∙◌}
use Rattle.listing.proofs.Lengths.{refused-octets}
use Rattle.sample.specs.Decode.{decode}
use Rattle.sample.specs.declared.Layout.{Layout}
use Rattle.sample.proofs.Accepted.{found-sample}
use Rattle.cmd_report.proofs.Laws.{text-refused, text-accepted, listed-text}
use Rattle.cmd_report.proofs.report.Goals as goal

pub returns-then-own-ne-NONE-clause-put_whole : goal.returns-then-own-ne-NONE-clause-put_whole
returns-then-own-ne-NONE-clause-put_whole c =
    rw (text-refused _ (ap (λ (y : Layout). y.refusal) c.check-own.ensures.value) c.if-own-ne-NONE.true) c.refuse.ensures

pub returns-then-own-ne-NONE-clause-room : goal.returns-then-own-ne-NONE-clause-room
returns-then-own-ne-NONE-clause-room c =
    let r = c.check-own.result.refusal in
    let fits : r < 2 ^ 32 = omega arith in
    rw (text-refused _ (ap (λ (y : Layout). y.refusal) c.check-own.ensures.value) c.if-own-ne-NONE.true)
    (omega (arith, refused-octets r fits))

pub returns-clause-put_whole : goal.returns-clause-put_whole
returns-clause-put_whole c =
    let check = c.check-own in
    let d = decode c.args.input.now in
    let none = c.if-own-ne-NONE.false in
    listed-text d _ (sym none ∙ ap (λ (y : Layout). y.refusal) check.ensures.value)
    (text-accepted d (found-sample c.args.input.now check.result check.ensures.value none)) c.listing.ensures.listed_to

pub returns-clause-room : goal.returns-clause-room
returns-clause-room c =
    let check = c.check-own in
    rw (text-accepted (decode c.args.input.now) (found-sample c.args.input.now check.result check.ensures.value c.if-own-ne-NONE.false))
    c.listing.ensures.room
