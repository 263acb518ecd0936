use Rattle.std.proofs.Common.{◌≡◌, length, refl, arith}
use Rattle.text_lines.proofs.Firsts.{ends-here, goes_on, ends_last}
use Rattle.text_lines.proofs.line_end.Goals as goal

pub loop-end-init : goal.loop-end-init
loop-end-init c = record { within = c.requires; left = refl }

pub returns-then-text-end-eq10 : goal.returns-then-text-end-eq10
returns-then-text-end-eq10 c = ends-here _ _ _ c.loop-end.invariant c.loop-end-test.true c.if-text-end-eq10.true

pub loop-end-preserved : goal.loop-end-preserved
loop-end-preserved c = goes_on _ _ _ c.loop-end.invariant c.loop-end-test.true c.if-text-end-eq10.false

pub returns : goal.returns
returns c =
    let e : c.loop-end.end ≡ length c.args.text.now = omega (arith, c.loop-end.invariant.within) in
    rw (← e) (ends_last _ _ _ c.loop-end.invariant c.loop-end-test.false)
