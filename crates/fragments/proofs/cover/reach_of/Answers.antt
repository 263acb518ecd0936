use Rattle.std.proofs.Common.{◌≡◌, ◌∙◌, ap, arith, rules, get_or}
use Rattle.fragments.specs.Private.{no_piece}
use Rattle.fragments.specs.Arrivals.{pieces}
use Rattle.fragments.proofs.Laws.{pieces-length}
use Rattle.fragments.proofs.Coverage.{pass-next, pass-done}
use Rattle.fragments.proofs.cover.reach_of.Goals as goal

pub get-requires : goal.get-requires
get-requires c =
    let a = c.args.arrivals.now in
    let e : c.from.result ≡ get_or c.args.run.now c.loop-place.place-index 0 = search rules in
    omega (
      arith,
      e,
      c.requires.inside c.loop-place.place-index c.loop-place-test.true,
      pieces-length a.numbers.now a.times.now a.lengths.now a.mores.now a.offsets.now,
    )

pub loop-place-preserved : goal.loop-place-preserved
loop-place-preserved c =
    let e : c.from.result ≡ get_or c.args.run.now c.loop-place.place-index 0 = search rules in
    pass-next _ _ _ c.requires c.loop-place.reach c.loop-place.place-index _ c.get.result c.loop-place-test.true
    (c.get.ensures ∙ ap (λ i. get_or (pieces c.args.arrivals.now) i no_piece) e) c.reach_after-reach.ensures
    c.loop-place.invariant

pub returns : goal.returns
returns c =
    pass-done _ _ _ c.requires c.loop-place.reach c.loop-place.place-index c.loop-place-test.false c.loop-place.invariant
