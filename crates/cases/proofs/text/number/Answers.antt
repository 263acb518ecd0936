-- `cases::text::number`: the number that part n begins with is number n of the text (`number-found`).
use Rattle.std.proofs.Common.{ap, ◌∙◌}
use Rattle.cases.specs.Text.{part_number}
use Rattle.cases.proofs.Parts.{number-found}
use Rattle.cases.proofs.text.number.Goals as goal

pub returns : goal.returns
returns c = ap (λ x. x.value) c.number_at.ensures.value ∙ ap part_number c.part.ensures ∙ number-found c.args.text.now c.args.n
