-- The product and the sum are `None` exactly where the time is over the range.
use Rattle.std.proofs.Common.{ℕ, ◌≡◌, ◌+◌, ◌*◌, ap, arith}
use borrow.Author.Tests.{lt-leb, le-leb}
use Rattle.textlog.specs.Form.{time_most}
use Rattle.textlog.specs.Decode.{read, in_range}
use Rattle.textlog.proofs.reading.in_range.Goals as goal

pub returns-in_err-checked_mul : goal.returns-in_err-checked_mul
unfolding in_range
returns-in_err-checked_mul c =
    rw (
      c.from_residual.ensures,
      lt-leb (1000 * c.args.whole + c.args.fraction) time_most (omega (arith, c.in_err-checked_mul.ensures)),
    )

pub returns-in_err-time : goal.returns-in_err-time
unfolding in_range
returns-in_err-time c =
    rw (
      c.from_residual-in_err-time.ensures,
      lt-leb (1000 * c.args.whole + c.args.fraction) time_most (omega (arith, c.in_err-time.ensures, c.in_ok-checked_mul.ensures)),
    )

pub returns : goal.returns
unfolding in_range
returns c =
    let t : c.in_ok-time.time ≡ 1000 * c.args.whole + c.args.fraction = omega (arith, c.in_ok-time.ensures, c.in_ok-checked_mul.ensures) in
    rw (le-leb (1000 * c.args.whole + c.args.fraction) time_most (omega (arith, c.in_ok-time.ensures, c.in_ok-checked_mul.ensures)))
    (ap (λ (τ : ℕ). read c.args.number τ c.args.end) t)
