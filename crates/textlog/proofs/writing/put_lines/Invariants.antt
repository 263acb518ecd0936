-- The memory holds the lines so far, then what it held, and `at` is their length.
use Rattle.std.proofs.Common.{◌≡◌, ◌≤◌, length, take}
use Rattle.octets.specs.Memory.{over}
use Rattle.rfc4737.specs.Judge.{arrivals_from}
use Rattle.textlog.specs.Form.{log_of}
use Rattle.textlog.proofs.writing.put_lines.Given as goal

abbrev pub invariant-loop-number : goal.invariant-loop-number
invariant-loop-number l =
    record {
      some : length l.yielded ≤ length l.numbers;
      ends : l.at ≡ length (log_of (take (length l.yielded) (arrivals_from l.numbers l.times)));
      written : l.out ≡ over (log_of (take (length l.yielded) (arrivals_from l.numbers l.times))) l.initial.out;
    }
