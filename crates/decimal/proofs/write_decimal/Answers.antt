use Rattle.std.proofs.Common.{◌≡◌, ◌+◌, ◌-◌, ◌≤◌, length, ◌∙◌, zero-add, append-nil, arith}
use Rattle.std.proofs.Math.ListN.{drop_of_length-le}
use Rattle.decimal.specs.Decimal.{decimal_of}
use Rattle.decimal.proofs.Backward.{all-lowest, write-none, write_two, write-first}
use Rattle.decimal.proofs.write_decimal.Goals as goal

pub loop-i-init : goal.loop-i-init
loop-i-init c =
    let e : length c.args.out.now ≤ 0 + length (decimal_of c.args.v) = omega arith in
    (omega arith, rw (c.requires, all-lowest, drop_of_length-le c.args.out.now e) (append-nil _))

pub loop-i-preserved : goal.loop-i-preserved
loop-i-preserved c =
    let l = c.loop-i in
    let z : 0 + (l.i - 2) ≡ l.i - 2 = zero-add _ in (
      omega arith,
      rw (c.last_digit.ensures, c.last_digit-in-loop-i.ensures)
          ((rw z at (write_two 0 l.i l.rest l.out (omega arith) (omega arith))) ∙ l.invariant.1),
    )

pub returns-then-i-gt0 : goal.returns-then-i-gt0
returns-then-i-gt0 c =
    let l = c.loop-i in
    let one : l.i ≡ 1 = omega arith in
    rw c.last_digit-then-i-gt0.ensures (write-first 0 l.rest l.out (omega arith) ∙ (rw one at l.invariant.1))

pub returns-else-i-gt0 : goal.returns-else-i-gt0
returns-else-i-gt0 c =
    let l = c.loop-i in
    let none : l.i ≡ 0 = omega arith in
    write-none 0 l.rest l.out ∙ (rw none at l.invariant.1)
