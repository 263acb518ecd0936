-- The lines have the full numbers; beside the answer stand the theorems that the contract carries.
use Rattle.std.proofs.Common.{List, subst}
use Rattle.textlog.specs.Decode.{DecodedLine, decoded_lines}
use Rattle.textlog.specs.Calls.{LinesImported}
use Rattle.textlog.proofs.Accepted.{fit-log}
use Rattle.textlog.proofs.Cases.{read-as-given}
use Rattle.textlog.proofs.Lines.{exact-line}
use Rattle.textlog.proofs.RoundTrips.{exact-log}
use Rattle.textlog.proofs.Turns.{lines-full}
use Rattle.textlog.proofs.import.Goals as goal

pub returns-clause-log_imported_from : goal.returns-clause-log_imported_from
returns-clause-log_imported_from c =
    let a = c.args in
    subst (λ (ds : List DecodedLine). LinesImported a.k ds a.numbers.now a.times.now c.import_by.result c.import_by.new.numbers c.import_by.new.times)
    (lines-full 0 (decoded_lines a.log.now)) c.import_by.ensures

pub returns-clause-exact : goal.returns-clause-exact
returns-clause-exact c = (exact-line, exact-log c.args.k c.args.log.now)

pub returns-clause-fit : goal.returns-clause-fit
returns-clause-fit c = fit-log c.args.k c.args.log.now

pub returns-clause-cases : goal.returns-clause-cases
returns-clause-cases c = read-as-given
