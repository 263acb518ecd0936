use Rattle.std.proofs.Common.{◌≡◌, ap, arith}
use Rattle.rfc4737.specs.Order.{FirstArrival}
use Rattle.rfc4737.specs.Extent.{extent_from, late_from}
use Rattle.receiver.specs.Outcomes.{lateness_from}
use Rattle.receiver.specs.Kept.{place_at}
use Rattle.receiver.proofs.Places.lateness_from.Goals as goal

pub overflow_sub-result : goal.overflow_sub-result
unfolding place_at
overflow_sub-result c = omega (arith, ap (λ (p : FirstArrival). p.position) c.jump-jump.ensures)

pub returns : goal.returns
unfolding lateness_from extent_from late_from
returns c = rw (← c.jump-jump.ensures, c.elapsed.ensures)
