use Rattle.std.proofs.Common.{◌≡◌, ◌∙◌, sym, ap, arith, rules, get_or}
use Rattle.fragments.specs.Private.{no_piece}
use Rattle.fragments.specs.Arrivals.{pieces}
use Rattle.fragments.proofs.Laws.{pieces-length}
use Rattle.fragments.proofs.Coverage.{whole-found}
use Rattle.fragments.proofs.cover.complete.Goals as goal

pub get-requires : goal.get-requires
get-requires c =
    let a = c.args.arrivals.now in
    let e : c.from.result ≡ get_or c.args.run.now 0 0 = search rules in
    omega (
      arith,
      e,
      c.requires.run.inside 0 c.requires.some,
      pieces-length a.numbers.now a.times.now a.lengths.now a.mores.now a.offsets.now,
    )

pub returns-then-is_whole : goal.returns-then-is_whole
returns-then-is_whole c =
    let e : c.from.result ≡ get_or c.args.run.now 0 0 = search rules in
    c.if-is_whole.true
    ∙ whole-found _ _ _ c.requires.run 0 c.get.result c.requires.some
    (c.get.ensures ∙ ap (λ i. get_or (pieces c.args.arrivals.now) i no_piece) e) (sym c.is_whole.ensures ∙ c.if-is_whole.true)
