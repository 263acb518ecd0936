-- `capi::buffering_calls::measure_of` meets its contract: in each arm the number is known, and in the last it is above 2. Assumes nothing.
use Rattle.std.proofs.Common.{arith, refl, le-leb}
use Rattle.std.proofs.lemmas.Bool.{lt-leb}
use Rattle.rfc4737.specs.Refusals.{outside}
use Rattle.capi.specs.Buffering.{measure_of}
use Rattle.capi.proofs.buffering_calls.measure_of.Goals as goal

pub returns-in-0 : goal.returns-in-0
unfolding measure_of outside
returns-in-0 c = rw c.in-0.is (record { some = (refl, refl); none = search })

pub returns-in-1 : goal.returns-in-1
unfolding measure_of outside
returns-in-1 c = rw c.in-1.is (record { some = (refl, refl); none = search })

pub returns-in-2 : goal.returns-in-2
unfolding measure_of outside
returns-in-2 c = rw c.in-2.is (record { some = (refl, refl); none = search })

pub returns-in_default : goal.returns-in_default
unfolding outside
returns-in_default c =
    let n = c.args.measure in
    record {
      some = search;
      none = simp (le-leb 0 n (omega arith), lt-leb n 2 (omega arith));
    }
