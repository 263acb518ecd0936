-- The number fits its four octets, and both values are those of `arrival_in`.
use Rattle.std.proofs.Common.{arith, w8}
use Rattle.octets.proofs.Below.{below-fits}
use Rattle.sample.specs.Format.{number_width}
use Rattle.sample.specs.Decode.{arrival_in}
use Rattle.sample.proofs.Items.{part-fits}
use Rattle.sample.proofs.arrival_of.Goals as goal

pub overflow_cast-number : goal.overflow_cast-number
overflow_cast-number c =
    let s = c.args.twelve.now in
    let b = part-fits number_width 0 s (below-fits w8 s c.type_inv.twelve) in
    omega (arith, b, c.number_at-number.ensures)

pub returns : goal.returns
unfolding arrival_in
returns c = λ j. record { number = c.number_at-number.ensures j; time = c.number_at-time.ensures j }
