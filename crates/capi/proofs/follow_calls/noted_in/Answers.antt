-- `capi::follow_calls::noted_in` meets its contract: in each arm the number is known, and in the last it is above 4 (`noted-last`). Assumes
-- nothing.
use Rattle.std.proofs.Common.{arith, refl}
use Rattle.capi.specs.Outcomes.{noted_in}
use Rattle.capi.proofs.Followed.{noted-last}
use Rattle.capi.proofs.follow_calls.noted_in.Goals as goal

pub returns-in-0 : goal.returns-in-0
unfolding noted_in
returns-in-0 c = rw c.in-0.is refl

pub returns-in-1 : goal.returns-in-1
unfolding noted_in
returns-in-1 c = rw c.in-1.is refl

pub returns-in-2 : goal.returns-in-2
unfolding noted_in
returns-in-2 c = rw c.in-2.is refl

pub returns-in-3 : goal.returns-in-3
unfolding noted_in
returns-in-3 c = rw c.in-3.is refl

pub returns-in-4 : goal.returns-in-4
unfolding noted_in
returns-in-4 c = rw c.in-4.is refl

pub returns-in_default : goal.returns-in_default
returns-in_default c = noted-last _ _ _ _ (omega arith)
