-- `summary::json::write_label`: the octets of the label before the index are written, and each took two octets at most.
use Rattle.std.proofs.Common.{◌≡◌, ◌≤◌, ◌+◌, ◌*◌, ◌++◌, length, take}
use Rattle.summary.specs.Json.{escaped}
use Rattle.summary.proofs.json.write_label.Given as goal

abbrev pub invariant-loop-octet : goal.invariant-loop-octet
invariant-loop-octet g l =
    record {
      written : l.out ≡ l.initial.out ++ escaped (take l.octet-index l.label);
      room : length l.out ≤ length l.initial.out + 2 * l.octet-index;
    }
