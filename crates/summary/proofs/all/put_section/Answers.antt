-- `summary::all::put_section` meets its contract: the lines follow the head (`put_then`). Assumes nothing.
use Rattle.std.proofs.Common.{arith}
use Rattle.writing.proofs.Put.{put_then}
use Rattle.summary.proofs.all.put_section.Goals as goal

pub returns : goal.returns
returns c =
    let head = c.put_text-one.ensures in
    let lines = c.put_lines.ensures in
    (put_then head lines.0, omega (arith, head.place, lines.1))
