-- Assumes nothing.
use Rattle.metrics.proofs.rows_from.Goals as goal

pub returns : goal.returns
returns c =
    rw (← c.new-file.ensures) (record { layout = c.new-file.result.laid.laid; rows = c.put_rows.ensures })
