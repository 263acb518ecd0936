use Rattle.std.proofs.Common.{sym}
use Rattle.fragments.proofs.Laws.{pieces-get_or}
use Rattle.fragments.proofs.arrivals.Arrivals.get.Goals as goal

pub returns : goal.returns
returns c =
    let a = c.args.self.now in
    sym (pieces-get_or a.numbers.now a.times.now a.lengths.now a.mores.now a.offsets.now c.args.i c.requires)
