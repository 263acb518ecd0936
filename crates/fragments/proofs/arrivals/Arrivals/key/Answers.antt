use Rattle.std.proofs.Common.{arith}
use Rattle.std.proofs.lemmas.List.{get_or_past}
use Rattle.fragments.specs.Places.{piece_key}
use Rattle.fragments.proofs.arrivals.Arrivals.key.Goals as goal

pub returns-then-i-self : goal.returns-then-i-self
unfolding piece_key
returns-then-i-self c = cc

-- past the last arrival both lists read 0
pub returns : goal.returns
unfolding piece_key
returns c =
    let a = c.args.self.now in
    let o = get_or_past a.offsets.now c.args.place 0 (omega (arith, c.if-i-self.false)) in
    let l = get_or_past a.lengths.now c.args.place 0 (omega (arith, c.if-i-self.false, a.same_lengths.1, a.same_lengths.3)) in
    omega (arith, o, l)
