-- `summary::all::degrees_of`: the numbers of n-reordered packets for n = 1 to i stand at the start of the list.
use Rattle.std.proofs.Common.{◌≡◌, ◌<◌, ℕ, suc, length, get_or}
use Rattle.rfc4737.specs.Ratios.{n_reordered}
use Rattle.sample.specs.Decode.{decode}
use Rattle.metrics.specs.Sample.{answers_of}
use Rattle.summary.proofs.all.degrees_of.Given as goal

abbrev pub invariant-loop-i : goal.invariant-loop-i
invariant-loop-i l =
    record {
      places : length l.degrees ≡ 10;
      found : (k : ℕ) → k < l.i → get_or l.degrees k 0 ≡ n_reordered (suc k) (answers_of (decode l.file));
    }
