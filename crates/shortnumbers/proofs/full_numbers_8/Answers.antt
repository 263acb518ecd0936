use Rattle.shortnumbers.proofs.Lists.{every-list}
use Rattle.shortnumbers.proofs.Cases.{found-as-given}
use Rattle.shortnumbers.proofs.full_numbers_8.Goals as goal

pub returns-clause-everywidth : goal.returns-clause-everywidth
returns-clause-everywidth c = every-list

pub returns-clause-cases : goal.returns-clause-cases
returns-clause-cases c = found-as-given
