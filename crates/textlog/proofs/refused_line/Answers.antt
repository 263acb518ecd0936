-- The lines have the full numbers.
use Rattle.std.proofs.Common.{List, ap, ◌∙◌}
use Rattle.textlog.specs.Decode.{DecodedLine, decoded_lines, judge_decoded}
use Rattle.textlog.proofs.Turns.{lines-full}
use Rattle.textlog.proofs.refused_line.Goals as goal

pub returns : goal.returns
returns c =
    c.refused_line_by.ensures
    ∙ ap (λ (ds : List DecodedLine). (judge_decoded c.args.k ds).line) (lines-full 0 (decoded_lines c.args.log.now))
