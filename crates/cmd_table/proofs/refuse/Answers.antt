-- `cmd_table::refuse` meets its contract: the line has at most 19 octets, so it fits. Assumes nothing.
use Rattle.std.proofs.Common.{◌+◌, ◌≤◌, ◌<◌, ◌^◌, arith, refl, ◌∙◌, [], length}
use Rattle.octets.proofs.Memory.{put-over}
use Rattle.listing.specs.Lines.{refused_line}
use Rattle.listing.proofs.Lengths.{refused-octets}
use Rattle.cmd_table.proofs.refuse.Goals as goal

pub returns : goal.returns
returns c =
    let s = c.args in
    let e = c.put_refused.ensures in
    let fits : s.refusal < 2 ^ 32 = omega arith in
    let room : 0 + length (refused_line s.refusal) ≤ length s.out.now = omega (arith, refused-octets _ fits, c.requires) in
    (e.0, e.1 ∙ put-over 0 [] (refused_line s.refusal) s.out.now refl room)
