use Rattle.fragments.specs.Pieces.{pieces_of}
use Rattle.fragments.proofs.Whole.{whole-flags}
use Rattle.fragments.proofs.Cases.{flagged-as-given}
use Rattle.fragments.proofs.order.Goals as goal

pub returns-clause-whole : goal.returns-clause-whole
returns-clause-whole c =
    let a = c.args in whole-flags (pieces_of a.numbers.now a.times.now a.lengths.now a.mores.now a.offsets.now)

pub returns-clause-cases : goal.returns-clause-cases
returns-clause-cases c = flagged-as-given
