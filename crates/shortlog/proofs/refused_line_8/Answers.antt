-- The lines are those with the numbers found.
use Rattle.std.proofs.Common.{List, sym, ap, ◌∙◌}
use Rattle.shortnumbers.specs.Number.{range_of}
use Rattle.textlog.specs.Decode.{DecodedLine, judge_decoded}
use Rattle.shortlog.proofs.Turns.{found-start}
use Rattle.shortlog.proofs.refused_line_8.Goals as goal

pub returns : goal.returns
returns c =
    c.refused_line_by.ensures
    ∙ ap (λ (ds : List DecodedLine). (judge_decoded c.args.k ds).line) (sym (found-start (range_of 8) c.args.log.now))
