-- The line fits the buffer of one line (`line-ready`), and is taken there (`line_taken`). Assumes nothing.
use Prim.Native.Nat.{◌≤◌}
use Rattle.listing.proofs.Lengths.{record-octets}
use Rattle.listing.specs.Lines.{record_line}
use Rattle.metrics.proofs.Passing.{line-ready, line_taken}
use lib.ListN.{length}
use native.Mathlib.Omega.{arith}
use Rattle.metrics.proofs.report.lines.take_record.Goals as goal

pub line_part-requires : goal.line_part-requires
line_part-requires c =
    let few : length (record_line c.args.i c.args.number c.args.answer) ≤ 93 = omega (arith, record-octets c.args.i c.args.number c.args.answer c.requires.1 c.requires.2 c.requires.3) in
    line-ready _ _ _ _ c.put_record-n.ensures.0 few c.requires.0 c.put_place.ensures c.put_record-n.ensures.1

pub returns : goal.returns
returns c =
    let few : length (record_line c.args.i c.args.number c.args.answer) ≤ 93 = omega (arith, record-octets c.args.i c.args.number c.args.answer c.requires.1 c.requires.2 c.requires.3) in
    line_taken _ _ _ _ c.put_record-n.ensures.0 few c.requires.0 c.put_place.ensures c.put_record-n.ensures.1 c.line_part.ensures
