-- `summary::all::put_lines` meets its contract: the line of the next figure is put after those before it (`lines_next`). Assumes nothing.
use Rattle.std.proofs.Common.{◌≡◌, ◌+◌, get_or, arith, ap, length}
use Rattle.writing.proofs.Put.{put-nothing, put_then, put-named}
use Rattle.summary.specs.Private.Lines.{figure_line}
use Rattle.summary.proofs.Sections.{lines_none, lines_next}
use Rattle.summary.proofs.all.put_lines.Goals as goal

pub loop-i-init : goal.loop-i-init
loop-i-init c =
    let a = c.args in
    record { put = put-named (lines_none a.kind a.figures.now) (put-nothing a.start a.out.now); room = omega arith }

pub loop-i-preserved : goal.loop-i-preserved
loop-i-preserved c =
    let l = c.loop-i in
    let line : c.octets.result.now ≡ figure_line c.args.kind (l.i + 1) (get_or c.args.figures.now l.i 0) =
    simp (c.octets.ensures, c.write_line.ensures.written, c.clear.ensures) in
    let p = c.put_text-at.ensures in
    record {
      put = put-named (lines_next _ _ l.i) (put_then l.invariant.put (put-named line p));
      room = omega (arith, p.place, ap length c.octets.ensures, c.write_line.ensures.room, ap length c.clear.ensures, l.invariant.room);
    }
