-- The check returns the layout of what the file decodes to, which is within the limits of a sample (`laid`). Assumes nothing.
use Rattle.metrics.proofs.FoundInFile.{laid}
use Rattle.octets.specs.Below.{Octets}
use Rattle.metrics.proofs.engine.input.CheckedFile.new.Goals as goal

pub invariant_of-result : goal.invariant_of-result
invariant_of-result c =
    let o : Octets c.args.file.now = λ i. (c.type_inv.file i).fits in
    record { laid = rw c.check.ensures.value (laid _ o); octets = o }
