-- `capi::meter_calls::renew` meets its contract: the parts are those of a new meter. Assumes nothing.
use Rattle.std.proofs.Common.{refl}
use Rattle.receiver.specs.Step.{made_for}
use Rattle.meter.specs.Step.{new_meter}
use Rattle.capi.proofs.meter_calls.renew.Goals as goal

pub returns : goal.returns
unfolding new_meter made_for
returns c = rw (c.fresh_stream.ensures, c.fresh_stream-2.ensures) refl
