use Rattle.receiver.specs.Fit.{fit}
use Rattle.receiver.specs.Parts.{oldest_first}
use Rattle.receiver.proofs.Receiver.is_fit.Goals as goal

pub returns : goal.returns
unfolding fit oldest_first
returns c = c.is_fit_with.ensures
