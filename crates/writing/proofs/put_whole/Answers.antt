-- `writing::put_whole` meets its contract: the text is refused with 8 if it does not fit, else it is copied. Assumes nothing.
use Rattle.std.proofs.Common.{◌+◌, ◌≤◌, length, [], refl, ◌∙◌, arith}
use Rattle.octets.proofs.Memory.{put-over}
use Rattle.sample.proofs.Output.{output-short, output-written}
use Rattle.writing.proofs.put_whole.Goals as goal

pub returns-then-out-text : goal.returns-then-out-text
returns-then-out-text c = output-short _ _ _ refl c.if-out-text.true

pub returns : goal.returns
returns c =
    let a = c.args in
    let whole : 0 + length a.text.now ≤ length a.out.now = omega (arith, c.if-out-text.false) in
    output-written _ _ _ refl c.if-out-text.false refl (c.put_octets.ensures ∙ put-over 0 [] a.text.now a.out.now refl whole)
