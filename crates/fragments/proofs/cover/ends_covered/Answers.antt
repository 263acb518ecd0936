use Rattle.std.proofs.Common.{◌≡◌, ◌-◌, ◌∙◌, sym, ap, arith, rules, get_or}
use Rattle.fragments.specs.Private.{no_piece}
use Rattle.fragments.specs.Arrivals.{pieces}
use Rattle.fragments.proofs.Laws.{pieces-length}
use Rattle.fragments.proofs.Coverage.{ends_found, ends-none}
use Rattle.fragments.proofs.cover.ends_covered.Goals as goal

pub get-requires : goal.get-requires
get-requires c =
    let a = c.args.arrivals.now in
    let e : c.from.result ≡ get_or c.args.run.now (c.loop-m.m - 1) 0 = search rules in
    omega (
      arith,
      e,
      c.requires.inside (c.loop-m.m - 1) (omega (arith, c.loop-m.auto.m, c.loop-m-test.true)),
      pieces-length a.numbers.now a.times.now a.lengths.now a.mores.now a.offsets.now,
    )

pub returns-then-ends_by : goal.returns-then-ends_by
returns-then-ends_by c =
    let e : c.from.result ≡ get_or c.args.run.now (c.loop-m.m - 1) 0 = search rules in
    ends_found _ _ _ c.requires c.reach_of-reach.result (c.loop-m.m - 1) c.get.result
    (omega (arith, c.loop-m.auto.m, c.loop-m-test.true))
    (c.get.ensures ∙ ap (λ i. get_or (pieces c.args.arrivals.now) i no_piece) e)
    (sym c.ends_by.ensures ∙ c.if-ends_by.true) c.reach_of-reach.ensures

pub returns : goal.returns
returns c =
    ends-none _ _ _ c.requires c.reach_of-reach.result c.loop-m.m (omega (arith, c.loop-m-test.false)) c.loop-m.invariant
    c.reach_of-reach.ensures
