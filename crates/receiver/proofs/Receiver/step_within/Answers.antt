use Rattle.receiver.specs.Parts.{oldest_first}
use Rattle.receiver.proofs.Receiver.step_within.Goals as goal

pub returns : goal.returns
unfolding oldest_first
returns c = rw c.of.ensures c.step-answer.ensures
