-- Assumes nothing.
use Rattle.metrics.proofs.EngineState.{links-laid}
use Rattle.metrics.proofs.Shares.{shares-few, shares-start}
use Rattle.metrics.proofs.TablesFollow.{arrivals-laid, before-length, before_more, here}
use Rattle.metrics.specs.Private.Steps.{shares_of}
use Rattle.metrics.specs.Sample.{sample_arrivals, size_of}
use Rattle.sample.specs.Decode.{decode}
use lib.Seq.{take_all}
use mathlib.Core.Path.{ap, sym, ◌∙◌}
use native.Mathlib.Omega.{arith}
use Rattle.metrics.proofs.figures.shares_of.Goals as goal

pub loop-i-init : goal.loop-i-init
loop-i-init c = shares-start _ _ (decode c.args.file.now.file.now)

pub shares_after-shares-requires : goal.shares_after-shares-requires
shares_after-shares-requires c =
    let t = c.loop-i.invariant in
    let h = (here c.args.file.now.laid c.loop-i.i (omega arith)) in
    let few = shares-few _ _ _ _ _ t.shares (omega (arith, before-length _ _ _ h, h.inside, h.file.few)) in (
      c.number_of-number.ensures.2,
      few.0,
      few.1,
      few.2,
      few.3,
      t.places.0,
      t.places.1,
      (links-laid _ _ _ h _ _ _ _ t.numbered t.linked).1,
    )

pub loop-i-preserved : goal.loop-i-preserved
loop-i-preserved c =
    rw (before_more _ _ _ (here c.args.file.now.laid c.loop-i.i (omega arith))) (c.shares_after-shares.ensures _ _ _ (sym c.number_of-number.ensures.0) c.loop-i.invariant)

pub returns : goal.returns
returns c =
    c.loop-i.invariant.shares ∙ ap (shares_of _ _ (size_of (decode c.args.file.now.file.now)))
    (take_all c.loop-i.i (sample_arrivals (decode c.args.file.now.file.now)) (omega (arith, arrivals-laid _ _ c.args.file.now.laid)))
