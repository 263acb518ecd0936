-- `table::whole::Part::put_records`: the records before i stand at the start of `out`, if there is room for them, and have at most 512 octets
-- each.
use Rattle.std.proofs.Common.{◌≤◌, ◌-◌, ◌*◌}
use Rattle.sample.specs.Decode.{decode}
use Rattle.writing.specs.Put.{Put}
use Rattle.table.specs.Text.{records_from}
use Rattle.table.proofs.whole.Part.put_records.Given as goal

abbrev pub invariant-loop-i : goal.invariant-loop-i
invariant-loop-i l =
    record {
      room : l.at ≤ 512 * (l.i - l.from);
      put : Put 0 l.at (records_from l.self.json (decode l.self.file.now) l.from (l.i - l.from)) l.initial.out l.out;
    }
