-- Its streams and places are those of a fresh receiver for K = 1, which is what the definition says; demand 3 and independence are laws.
use Rattle.std.proofs.Common.{◌≡◌, ap}
use Rattle.rfc4737.specs.Refusals.{outside}
use Rattle.receiver.specs.declared.FreshAnswer.{FreshAnswer}
use Rattle.receiver.specs.declared.Receiver.{Receiver}
use Rattle.receiver.specs.Step.{made_for, fresh_of}
use Rattle.meter.specs.Step.{new_meter}
use Rattle.meter.proofs.Demand3.{demand3}
use Rattle.meter.proofs.Independence.{independence}
use Rattle.meter.proofs.Meter.new.Goals as goal

fresh-state : (f : FreshAnswer) → f ≡ fresh_of 1 → f.state ≡ made_for 1
unfolding fresh_of outside
fresh-state f e = ap (λ (x : FreshAnswer). x.state) e

pub returns : goal.returns
unfolding new_meter
returns c =
    let s : c.fresh.result.state ≡ made_for 1 = fresh-state c.fresh.result c.fresh.ensures.fresh in
    record {
      new = rw (c.stream_in.ensures, c.stream_in-2.ensures, s);
      demand3 = demand3;
      independence = independence;
    }
