-- There is room for the line, so its four parts are put, each where the one before ends: they are one put of the line (`put-parts`).
use Rattle.std.proofs.Common.{ℕ, ◌≡◌, ◌+◌, ◌/◌, ◌%◌, List, [], ◌∷◌, ◌++◌, ap, arith}
use Rattle.decimal.specs.Decimal.{decimal_of}
use Rattle.octets.specs.Memory.{put}
use Rattle.octets.specs.Text.{line_feed}
use Rattle.textlog.specs.Form.{comma, three_digits, arrival_line}
use Rattle.textlog.proofs.WrittenLines.{line-long, put-parts}
use Rattle.textlog.proofs.writing.put_line.Goals as goal

pub overflow_add-first : goal.overflow_add-first
overflow_add-first c =
    omega (arith, line-long (record { number = c.args.number; time = c.args.time }), c.requires, c.put_decimal.ensures.0)

pub overflow_add-second : goal.overflow_add-second
overflow_add-second c =
    omega (arith, line-long (record { number = c.args.number; time = c.args.time }), c.requires, c.put_decimal.ensures.0)

pub overflow_add-third : goal.overflow_add-third
overflow_add-third c =
    omega (arith, line-long (record { number = c.args.number; time = c.args.time }), c.requires, c.put_decimal.ensures.0, c.put_decimal-2.ensures.0)

pub overflow_add-result : goal.overflow_add-result
overflow_add-result c =
    omega (arith, line-long (record { number = c.args.number; time = c.args.time }), c.requires, c.put_decimal.ensures.0, c.put_decimal-2.ensures.0)

pub returns : goal.returns
unfolding arrival_line
returns c =
    let a = c.args in
    let number = c.put_decimal in
    let whole = c.put_decimal-2 in
    let first = a.at + number.result in
    let third = a.at + number.result + 1 + whole.result in
    let l = line-long (record { number = a.number; time = a.time }) in
    let z : List ℕ = comma ∷ (three_digits (a.time % 1000) ++ (line_feed ∷ [])) in
    let d : c.put_octets-2.new.out ≡ put third z whole.new.out =
    rw (← c.digit_of.ensures, ← c.digit_of-2.ensures, ← c.digit_of-3.ensures) c.put_octets-2.ensures in (
      omega (arith, l, number.ensures.0, whole.ensures.0),
      put-parts a.at first third (decimal_of a.number) (decimal_of (a.time / 1000)) z a.out.now c.requires
          (ap (λ (k : ℕ). a.at + k) number.ensures.0) (ap (λ (k : ℕ). a.at + number.result + 1 + k) whole.ensures.0)
          number.ensures.1 c.put_octets.ensures whole.ensures.1 d,
    )
