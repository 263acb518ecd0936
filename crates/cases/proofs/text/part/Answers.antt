-- `cases::text::part`: what `nth` returns of the parts of the text (`part_read`).
use Rattle.std.proofs.Common.{◌≡◌, ap, ◌∙◌}
use Rattle.std.proofs.lemmas.Iterator.Consumers.{nth_from_yields_List, YieldsList-from_first}
use Rattle.cases.specs.declared.text.Parts.{Parts}
use Rattle.cases.specs.Text.{cut_at}
use Rattle.cases.proofs.Parts.{part_read}
use Rattle.cases.proofs.text.part.Goals as goal

pub returns : goal.returns
returns c =
    let same : cut_at c.parts_of.result.separator c.parts_of.result.rest.now ≡ cut_at c.args.separator c.args.text.now = cc in
    let road = YieldsList-from_first (λ x. x.now) (λ (s : Parts). cut_at s.separator s.rest.now) {s = c.parts_of.result} _ same in
    let e = nth_from_yields_List c.nth.result c.nth.new.self c.args.n c.nth.ensures.ran road in
    ap (λ x. x.now) c.unwrap_or.ensures ∙ part_read (λ x. x.now) c.nth.result _ (cut_at c.args.separator c.args.text.now) c.args.n e
