-- The count and the label after it are the section.
use Rattle.std.proofs.Common.{length, ◌∙◌, arith, rules}
use Rattle.octets.proofs.Memory.{put-room}
use Rattle.sample.specs.Format.{count_width}
use Rattle.sample.proofs.Writing.{section-done}
use Rattle.sample.proofs.sections.write_label.Goals as goal

pub returns : goal.returns
returns c =
    let a = c.args in
    let k = c.put_number.auto.out in
    section-done 0 (length a.label.now) a.label.now a.out.now (search rules) c.put_number.ensures.out_after
    (c.put_octets.ensures ∙ put-room count_width a.label.now c.put_number.new.out (omega arith))
