-- `sweep::pass::pass` meets its contract: `pass_record` passes the next record (`lent-next`), and after the last the invariant is the
-- contract (`lent-end`). Each step keeps the references to the lists (`same-again`). Assumes nothing.
use Rattle.std.proofs.Common.{arith, refl}
use Rattle.sweep.proofs.PassInvariant.{lent-start, lent-room, lent-positioned, lent-next, lent-end, same-again}
use Rattle.sweep.proofs.pass.pass.Goals as goal

pub loop-i-init : goal.loop-i-init
loop-i-init c = (lent-start _ _ _ c.requires, record { flags = refl; positions = refl; extents = refl; lates = refl })

pub pass_record-state-requires : goal.pass_record-state-requires
pass_record-state-requires c =
    let r = c.requires in
    let l = c.loop-i.invariant.0 in
    let t = c.loop-i-test.true in
    (t, l.held, lent-room _ _ _ _ _ _ r l t, lent-positioned _ _ _ _ _ _ r l t)

pub loop-i-preserved : goal.loop-i-preserved
loop-i-preserved c =
    let e = c.pass_record-state.ensures in (
      lent-next _ _ _ _ _ _ c.requires c.loop-i.invariant.0 c.loop-i-test.true _ _ e.0 e.1 e.2.0,
      same-again c.loop-i.invariant.1 e.2.1,
    )

pub returns : goal.returns
returns c = (lent-end _ _ _ _ _ _ c.requires c.loop-i.invariant.0 (omega arith), c.loop-i.invariant.1)
