-- If nothing is refused, `accepted` gives what `order_accepted` requires.
use Rattle.std.proofs.Common.{ℕ, List, length, sym, subst}
use Rattle.fragments.specs.Private.{NumbersWithin}
use Rattle.fragments.proofs.Accepted.{accepted}
use Rattle.fragments.proofs.try_order.Goals as goal

pub order_accepted-requires : goal.order_accepted-requires
order_accepted-requires c =
    let a = c.args in
    let e = c.in_ok-arrivals.ensures.arrivals.0 in
    let k =
    accepted a.k a.numbers.now a.times.now a.lengths.now a.mores.now a.offsets.now (length a.flagged.now) (length a.used.now)
    (sym c.in_ok-arrivals.ensures.refusal) in (
      k.sent,
      subst (λ (l : List ℕ). NumbersWithin a.k l) (sym e) k.numbers,
      rw e k.many,
      rw e k.flag_room,
      rw e k.used_room,
    )
