-- `capi::shortnumbers_calls::krakobran_receiver_step_8` meets its contract: the outcome told and the state are those of the step with
-- the number found. Assumes nothing.
use Rattle.std.proofs.Common.{rules}
use Rattle.shortnumbers.specs.Steps.{short_step}
use Rattle.capi.proofs.shortnumbers_calls.krakobran_receiver_step_8.Goals as goal

pub returns : goal.returns
unfolding short_step
returns c = search rules
