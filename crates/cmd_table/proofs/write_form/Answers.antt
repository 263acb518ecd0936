-- `cmd_table::write_form` meets its contract: it is that of the call for the form. Assumes nothing.
use Rattle.cmd_table.proofs.write_form.Goals as goal

pub returns-then-json : goal.returns-then-json
returns-then-json c =
    let w = c.write_json.ensures in
    rw c.if-json.true (w.part_to, w.room, w.whole)

pub returns : goal.returns
returns c =
    let w = c.write_csv.ensures in
    rw c.if-json.false (w.part_to, w.room, w.whole)
