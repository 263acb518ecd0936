use Rattle.std.proofs.Common.{◌+◌, ◌≤◌, length, refl, sym, ◌∙◌, arith}
use borrow.Author.Tests.{leb-true}
use Rattle.octets.specs.Memory.{put}
use Rattle.octets.proofs.Memory.{copy_start, copy-next, copy_done, put-room}
use Rattle.octets.proofs.put_octets.Goals as goal

pub loop-i-init : goal.loop-i-init
loop-i-init c = copy_start c.args.at c.args.s.now c.args.out.now

pub loop-i-preserved : goal.loop-i-preserved
loop-i-preserved c =
    let h : c.args.at + length c.args.s.now ≤ length c.args.out.now = leb-true _ _ (sym c.has_room.ensures ∙ c.if-has_room.true) in
    copy-next c.args.at c.args.s.now c.args.out.now c.loop-i.i 0 c.loop-i-test.true (omega arith) c.loop-i.invariant refl

pub returns-after-loop-i : goal.returns-after-loop-i
returns-after-loop-i c =
    let h : c.args.at + length c.args.s.now ≤ length c.args.out.now = leb-true _ _ (sym c.has_room.ensures ∙ c.if-has_room.true) in
    copy_done c.args.at c.args.s.now c.args.out.now c.loop-i.i c.loop-i-test.false c.loop-i.invariant ∙ sym (put-room _ _ _ h)

pub returns-else-has_room : goal.returns-else-has_room
unfolding put
returns-else-has_room c = rw (← c.has_room.ensures, c.if-has_room.false)
