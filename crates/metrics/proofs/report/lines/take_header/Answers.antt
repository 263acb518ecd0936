-- The line fits the buffer of one line (`line-ready`), and is taken there (`line_taken`). Assumes nothing.
use Prim.Native.Nat.{◌≤◌}
use Rattle.listing.proofs.Lengths.{header-octets}
use Rattle.listing.specs.Lines.{header_line}
use Rattle.metrics.proofs.Passing.{line-ready, line_taken, same_start}
use lib.ListN.{length}
use native.Mathlib.Omega.{arith}
use Rattle.metrics.proofs.report.lines.take_header.Goals as goal

pub line_part-requires : goal.line_part-requires
line_part-requires c =
    let few : length (header_line c.args.k c.args.a) ≤ 93 = omega (arith, header-octets _ _ c.requires.1 c.requires.2) in
    line-ready _ _ _ 0 c.put_header-n.ensures.0 few c.requires.0 (same_start c.args.comparing) c.put_header-n.ensures.1

pub returns : goal.returns
returns c =
    let few : length (header_line c.args.k c.args.a) ≤ 93 = omega (arith, header-octets _ _ c.requires.1 c.requires.2) in
    line_taken _ _ _ 0 c.put_header-n.ensures.0 few c.requires.0 (same_start c.args.comparing) c.put_header-n.ensures.1 c.line_part.ensures
