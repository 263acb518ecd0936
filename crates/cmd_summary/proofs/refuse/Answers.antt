-- `cmd_summary::refuse` meets its contract: the line is written if it fits, else nothing is. Assumes nothing.
use Rattle.std.proofs.Common.{◌+◌, ◌≤◌, ◌<◌, ◌^◌, arith, refl, ◌∙◌, [], length}
use Rattle.octets.proofs.Memory.{put-none, put-over}
use Rattle.listing.specs.Lines.{refused_line}
use Rattle.listing.proofs.Lengths.{refused-octets}
use Rattle.sample.proofs.Output.{output-short, output-written}
use Rattle.cmd_summary.proofs.refuse.Goals as goal

pub returns-then-out-n : goal.returns-then-out-n
returns-then-out-n c =
    let a = c.args in
    let e = c.put_refused-n.ensures in
    let line = refused_line a.refusal in
    let long : length a.out.now < length line = omega (arith, e.0, c.if-out-n.true) in
    rw (e.1, put-none 0 line a.out.now (omega (arith, long))) (rw c.from.ensures (output-short 0 line a.out.now refl long))

pub overflow_cast-n : goal.overflow_cast-n
overflow_cast-n c =
    let fits : c.args.refusal < 2 ^ 32 = omega arith in
    omega (arith, c.put_refused-n.ensures.0, refused-octets _ fits)

pub returns : goal.returns
returns c =
    let a = c.args in
    let e = c.put_refused-n.ensures in
    let line = refused_line a.refusal in
    let fits : length line ≤ length a.out.now = omega (arith, e.0, c.if-out-n.false) in
    let whole : 0 + length line ≤ length a.out.now = omega (arith, fits) in
    rw c.from-2.ensures (output-written 0 line a.out.now refl fits e.0 (e.1 ∙ put-over 0 [] line a.out.now refl whole))
