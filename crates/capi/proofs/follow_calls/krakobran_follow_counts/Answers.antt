-- `capi::follow_calls::krakobran_follow_counts` meets its contract: the text of the counts has nothing else of a stream. Assumes nothing.
use Rattle.std.proofs.Common.{refl}
use Rattle.follow.specs.Text.{counts_text}
use Rattle.capi.proofs.follow_calls.krakobran_follow_counts.Goals as goal

pub returns-clause-stream : goal.returns-clause-stream
unfolding counts_text
returns-clause-stream c = λ s. refl
