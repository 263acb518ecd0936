-- With a refusal nothing is compared (`agreed-refused`), else the listing is (`agreed-accepted`). Assumes nothing.
use Rattle.metrics.proofs.Agreed.{agreed-accepted, agreed-refused}
use Rattle.metrics.proofs.Listed.{sample-within}
use Rattle.metrics.specs.Private.Taken.{part_of}
use Rattle.std.specs.Prelude.{Err, Ok}
use mathlib.Core.Path.{refl}
use Rattle.metrics.proofs.agreement.Goals as goal

pub returns-then-file-ne-NONE-clause-value : goal.returns-then-file-ne-NONE-clause-value
returns-then-file-ne-NONE-clause-value c =
    rw (← c.new-file.ensures) (agreed-refused _ _ c.new-file.result.laid _ c.if-file-ne-NONE.true)

pub returns-then-file-ne-NONE-clause-room : goal.returns-then-file-ne-NONE-clause-room
returns-then-file-ne-NONE-clause-room c = let f = c.new-file.result in rw (← c.new-file.ensures) (sample-within f.file.now _ f.laid f.octets)

pub returns-in-Ok-clause-value : goal.returns-in-Ok-clause-value
returns-in-Ok-clause-value c =
    rw (← c.new-file.ensures) (agreed-accepted _ _ c.new-file.result.laid _ c.if-file-ne-NONE.false (part_of (Ok c.in-Ok.octets))
    c.in-Ok.ensures _ refl)

pub returns-in-Ok-clause-room : goal.returns-in-Ok-clause-room
returns-in-Ok-clause-room c = let f = c.new-file.result in rw (← c.new-file.ensures) (sample-within f.file.now _ f.laid f.octets)

pub returns-in-Err-clause-value : goal.returns-in-Err-clause-value
returns-in-Err-clause-value c =
    rw (← c.new-file.ensures) (agreed-accepted _ _ c.new-file.result.laid _ c.if-file-ne-NONE.false (part_of (Err c.in-Err.octets))
    c.in-Err.ensures _ refl)

pub returns-in-Err-clause-room : goal.returns-in-Err-clause-room
returns-in-Err-clause-room c = let f = c.new-file.result in rw (← c.new-file.ensures) (sample-within f.file.now _ f.laid f.octets)
