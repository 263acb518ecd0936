-- Its figures are bounded (`answer-bounded`), and the theorems that it carries are laws. Assumes nothing.
use Rattle.metrics.proofs.DigitBounds.{answer-bounded}
use Rattle.metrics.specs.declared.RecordAnswer.{RecordAnswer}
use Rattle.rfc4737.proofs.Cases.{cases-hold}
use Rattle.rfc4737.proofs.Reordered.{offsets-bounded, reordered-found}
use Rattle.rfc4737.specs.Reordered.{FiguresBounded}
use mathlib.Core.Path.{subst, sym}
use Rattle.metrics.proofs.answer.Goals as goal

pub returns-in-Ok-clause-value : goal.returns-in-Ok-clause-value
returns-in-Ok-clause-value c = rw (← c.new.ensures) c.in-Ok.ensures.ok

pub returns-in-Ok-clause-cases : goal.returns-in-Ok-clause-cases
returns-in-Ok-clause-cases c = cases-hold

pub returns-in-Ok-clause-bounds : goal.returns-in-Ok-clause-bounds
returns-in-Ok-clause-bounds c =
    let f = c.new.result in
    subst (λ (r : RecordAnswer). FiguresBounded r.answer) (sym c.in-Ok.ensures.ok)
    (answer-bounded f.file.now f.layout f.laid f.octets c.args.asked)

pub returns-in-Ok-clause-discontinuity : goal.returns-in-Ok-clause-discontinuity
returns-in-Ok-clause-discontinuity c = reordered-found

pub returns-in-Ok-clause-offsets : goal.returns-in-Ok-clause-offsets
returns-in-Ok-clause-offsets c = offsets-bounded

pub returns-in-Err-clause-value : goal.returns-in-Err-clause-value
returns-in-Err-clause-value c = rw (← c.new.ensures) c.in-Err.ensures.err

pub returns-in-Err-clause-cases : goal.returns-in-Err-clause-cases
returns-in-Err-clause-cases c = cases-hold

pub returns-in-Err-clause-discontinuity : goal.returns-in-Err-clause-discontinuity
returns-in-Err-clause-discontinuity c = reordered-found

pub returns-in-Err-clause-offsets : goal.returns-in-Err-clause-offsets
returns-in-Err-clause-offsets c = offsets-bounded
