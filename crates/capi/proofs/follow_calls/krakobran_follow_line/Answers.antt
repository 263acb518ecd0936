-- `capi::follow_calls::krakobran_follow_line` meets its contract: what was noted is read back (`read_back`). Assumes nothing.
use Rattle.capi.proofs.Followed.{read_back}
use Rattle.capi.proofs.follow_calls.krakobran_follow_line.Goals as goal

pub returns-clause-back : goal.returns-clause-back
returns-clause-back c = read_back
