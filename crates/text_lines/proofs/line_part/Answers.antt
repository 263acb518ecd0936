use Rattle.text_lines.proofs.Firsts.{part-told, part-there}
use Rattle.text_lines.proofs.line_part.Goals as goal

pub returns : goal.returns
returns c =
    let start = c.line_start-start.ensures in
    record {
      value = part-told c.args.n c.args.text.now _ _ start.1 start.2 c.line_end-end.ensures;
      there = part-there c.args.n c.args.text.now _ _ start.1 start.2 c.line_end-end.ensures;
    }
