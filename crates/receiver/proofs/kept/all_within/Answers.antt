use Rattle.std.proofs.Common.{◌≡◌, ℕ, ◌<◌, ap, ◌∙◌, refl, rules, arith, length}
use lib.Dec.{leb}
use Rattle.rfc4737.specs.Refusals.{within}
use Rattle.receiver.specs.Limits.{window_places}
use Rattle.receiver.proofs.OldestFirst.{read_at}
use Rattle.receiver.proofs.FitTests.{pass-none, pass-more}
use Rattle.receiver.proofs.kept.all_within.Goals as goal

pub loop-i-init : goal.loop-i-init
loop-i-init c = pass-none _ _

pub loop-i-preserved : goal.loop-i-preserved
loop-i-preserved c =
    let size : length c.args.values.now ≡ window_places = search rules in
    let h : c.loop-i.i < window_places = omega arith in
    pass-more _ _ _ _ _ _ c.loop-i.invariant
    (c.is_within-fit.ensures ∙ ap (within 1 c.args.most) (read_at c.args.values.now size c.args.down _ _ h c.place.ensures.0))
    refl
