-- The sum is the length of the lines so far, each of at most 46 octets.
use Rattle.std.proofs.Common.{◌≡◌, ◌*◌, ◌≤◌, length, take}
use Rattle.rfc4737.specs.Judge.{arrivals_from}
use Rattle.textlog.specs.Form.{log_of}
use Rattle.textlog.proofs.writing.log_length.Given as goal

abbrev pub invariant-loop-number : goal.invariant-loop-number
invariant-loop-number l =
    record {
      some : length l.yielded ≤ length l.numbers;
      so_far : l.total ≡ length (log_of (take (length l.yielded) (arrivals_from l.numbers l.times)));
      bound : l.total ≤ 46 * length l.yielded;
    }
