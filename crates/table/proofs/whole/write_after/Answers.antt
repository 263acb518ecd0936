-- `table::whole::write_after` meets its contract: the pieces are the text after the records (`end-pieces`). Assumes nothing.
use Rattle.std.proofs.Common.{append_assoc}
use Rattle.table.proofs.Pieces.{end-pieces}
use Rattle.table.proofs.whole.write_after.Goals as goal

pub returns-clause-written : goal.returns-clause-written
returns-clause-written c =
    let s = c.args in
    simp (
      c.write_runs.ensures.written,
      c.write_counts.ensures.written,
      c.write_sent.ensures.written,
      append_assoc,
      end-pieces s.json s.layout.sent s.layout.arrivals s.counts,
    )
