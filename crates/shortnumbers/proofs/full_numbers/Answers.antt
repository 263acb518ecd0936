-- K and the lists are refused, the list is too short, or it is filled, each by its law of Lists. Where nothing is refused there are at most
-- 4,096 short numbers, as `fill_numbers` asks.
use Rattle.std.proofs.Common.{sym, arith}
use Rattle.std.proofs.lemmas.Result.{err_from_is_err_and}
use Rattle.rfc4737.proofs.Judged.{lists-fit}
use Rattle.rfc4737.proofs.Refused.{number-above}
use Rattle.shortnumbers.specs.Lists.{numbers_found}
use Rattle.shortnumbers.proofs.Lists.{found-length, filled-refused, filled-short, filled-whole}
use Rattle.shortnumbers.proofs.full_numbers.Goals as goal

pub returns-in_err-check_found : goal.returns-in_err-check_found
returns-in_err-check_found c =
    let p = err_from_is_err_and c.from_residual.result c.from_residual.ensures.1 in
    rw (p.1, p.2)
    (filled-refused _ _ _ _ _ _ c.in_err-check_found.ensures (λ z. omega (arith, number-above c.in_err-check_found.field-0.0)))

pub returns-then-numbers-shorts : goal.returns-then-numbers-shorts
returns-then-numbers-shorts c = filled-short _ _ _ _ _ (sym c.in_ok-check_found.ensures) c.if-numbers-shorts.true

pub fill_numbers-requires : goal.fill_numbers-requires
fill_numbers-requires c =
    let f = lists-fit c.args.k (numbers_found c.args.range c.args.shorts.now) c.args.times.now (sym c.in_ok-check_found.ensures) in
    let m = found-length c.args.range c.args.shorts.now in
    (c.requires, omega (arith, f.few), c.if-numbers-shorts.false)

pub returns : goal.returns
returns c = filled-whole _ _ _ _ _ _ (sym c.in_ok-check_found.ensures) c.if-numbers-shorts.false c.fill_numbers.ensures
