-- A refusal of `check` is the file's own.
use Rattle.std.proofs.Common.{w8}
use Rattle.octets.proofs.Below.{below-fits}
use Rattle.sample.proofs.Output.{output-refused}
use Rattle.owamp.proofs.Cases.{written-as-given}
use Rattle.owamp.proofs.Writing.{found-refusal, own-refusal, read_again}
use Rattle.owamp.proofs.write.Goals as goal

pub returns-then-layout-ne-NONE-clause-records_written_to : goal.returns-then-layout-ne-NONE-clause-records_written_to
returns-then-layout-ne-NONE-clause-records_written_to c =
    let f = c.args.file.now in
    output-refused _ _ c.args.out.now _ (own-refusal f _ (found-refusal f _ c.check-layout.ensures.value) c.if-layout-ne-NONE.true)
    c.if-layout-ne-NONE.true

pub returns-then-layout-ne-NONE-clause-again : goal.returns-then-layout-ne-NONE-clause-again
returns-then-layout-ne-NONE-clause-again c = read_again c.args.file.now (below-fits w8 c.args.file.now c.type_inv.file)

pub returns-then-layout-ne-NONE-clause-cases : goal.returns-then-layout-ne-NONE-clause-cases
returns-then-layout-ne-NONE-clause-cases c = written-as-given

pub returns-clause-again : goal.returns-clause-again
returns-clause-again c = read_again c.args.file.now (below-fits w8 c.args.file.now c.type_inv.file)

pub returns-clause-cases : goal.returns-clause-cases
returns-clause-cases c = written-as-given
