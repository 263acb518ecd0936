use Rattle.std.proofs.Common.{◌+◌, ◌-◌, ◌≤◌, length, sym, ◌∙◌, arith}
use borrow.Author.Tests.{leb-true, leb-false}
use Rattle.octets.proofs.Memory.{part_length, splice-written, put-room, put-none}
use Rattle.decimal.specs.Decimal.{decimal_of}
use Rattle.decimal.proofs.put_decimal.Goals as goal

pub write_decimal-requires : goal.write_decimal-requires
write_decimal-requires c =
    let h : c.args.at + c.count-n.result ≤ length c.args.out.now = leb-true _ _ (sym c.has_room.ensures ∙ c.if-has_room.true) in
    part_length c.args.at (c.args.at + c.count-n.result - c.args.at) c.args.out.now (omega arith)
    ∙ omega (arith, c.count-n.ensures)

pub returns-then-has_room : goal.returns-then-has_room
returns-then-has_room c =
    let h : c.args.at + length (decimal_of c.args.v) ≤ length c.args.out.now =
    rw c.count-n.ensures at (leb-true _ _ (sym c.has_room.ensures ∙ c.if-has_room.true)) in (
      c.count-n.ensures,
      rw c.write_decimal.ensures
          (splice-written c.args.at c.count-n.result (decimal_of c.args.v) c.args.out.now (sym c.count-n.ensures))
          ∙ sym (put-room c.args.at (decimal_of c.args.v) c.args.out.now h),
    )

pub returns-else-has_room : goal.returns-else-has_room
returns-else-has_room c =
    (c.count-n.ensures, sym (put-none _ _ _ (rw c.count-n.ensures at (leb-false _ _ (sym c.has_room.ensures ∙ c.if-has_room.false)))))
