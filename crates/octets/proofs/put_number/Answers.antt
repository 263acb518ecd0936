use Rattle.std.proofs.Common.{◌≡◌, ◌+◌, ◌≤◌, ◌-◌, length, sym, ◌∙◌, arith}
use borrow.Author.Tests.{leb-true}
use Rattle.octets.specs.Memory.{put}
use Rattle.octets.proofs.BigEndian.{octets-length}
use Rattle.octets.proofs.Memory.{taken, part_length, splice-written}
use Rattle.octets.proofs.RoundTrip.{read_back}
use Rattle.octets.proofs.put_number.Goals as goal

pub returns-then-has_room-clause-out_after : goal.returns-then-has_room-clause-out_after
unfolding put
returns-then-has_room-clause-out_after c =
    let h : c.args.at + c.min-n.result ≤ length c.args.out.now = leb-true _ _ (sym c.has_room.ensures ∙ c.if-has_room.true) in
    let n : length (taken c.args.at c.min-n.result c.args.out.now) ≡ c.min-n.result =
    part_length c.args.at (c.args.at + c.min-n.result - c.args.at) c.args.out.now (omega arith) ∙ omega arith in
    rw (← c.min-n.ensures, octets-length, ← c.has_room.ensures, c.if-has_room.true, c.write_number.ensures, n)
    (rw octets-length at (splice-written c.args.at c.min-n.result _ c.args.out.now (octets-length c.min-n.result c.args.v)))

pub returns-else-has_room-clause-out_after : goal.returns-else-has_room-clause-out_after
unfolding put
returns-else-has_room-clause-out_after c = rw (← c.min-n.ensures, octets-length, ← c.has_room.ensures, c.if-has_room.false)

pub returns-then-has_room-clause-back : goal.returns-then-has_room-clause-back
returns-then-has_room-clause-back c = read_back

pub returns-else-has_room-clause-back : goal.returns-else-has_room-clause-back
returns-else-has_room-clause-back c = read_back
