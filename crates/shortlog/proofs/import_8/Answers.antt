-- The lines are those with the numbers found; beside the answer stand the statement for every width and the table.
use Rattle.std.proofs.Common.{List, sym, subst}
use Rattle.shortnumbers.specs.Number.{range_of}
use Rattle.textlog.specs.Decode.{DecodedLine}
use Rattle.textlog.specs.Calls.{LinesImported}
use Rattle.shortlog.proofs.Turns.{found-start}
use Rattle.shortlog.proofs.TrueNumbers.{every-log}
use Rattle.shortlog.proofs.Cases.{as-given}
use Rattle.shortlog.proofs.import_8.Goals as goal

pub returns : goal.returns
returns c =
    let a = c.args in
    record {
      short_log_imported_from =
          subst (λ (ds : List DecodedLine). LinesImported a.k ds a.numbers.now a.times.now c.import_by.result c.import_by.new.numbers
          c.import_by.new.times) (sym (found-start (range_of 8) a.log.now)) c.import_by.ensures;
      everywidth = every-log;
      cases = as-given;
    }
