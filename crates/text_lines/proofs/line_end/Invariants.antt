use Rattle.text_lines.proofs.Firsts.{LeftFrom}
use Rattle.text_lines.proofs.line_end.Given as goal

abbrev pub invariant-loop-end : goal.invariant-loop-end
invariant-loop-end l = LeftFrom l.text l.at l.end
