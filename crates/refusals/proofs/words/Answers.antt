use Rattle.refusals.proofs.Asked.{words-fit}
use Rattle.refusals.proofs.words.Goals as goal

pub returns-clause-fit : goal.returns-clause-fit
returns-clause-fit c = words-fit
