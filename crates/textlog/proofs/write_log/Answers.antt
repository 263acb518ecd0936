-- Lists of which nothing is refused are equally long and have at most 4,096 elements, as `log_length` requires.
use Rattle.std.proofs.Common.{sym, arith}
use Rattle.rfc4737.proofs.Judged.{lists-fit}
use Rattle.textlog.proofs.write_log.Goals as goal

pub log_length-length-requires : goal.log_length-length-requires
log_length-length-requires c =
    let f = lists-fit c.args.k c.args.numbers.now c.args.times.now (sym c.in_ok-check_lists.ensures) in
    (f.same, f.few)

pub put_lines-requires : goal.put_lines-requires
put_lines-requires c =
    let f = lists-fit c.args.k c.args.numbers.now c.args.times.now (sym c.in_ok-check_lists.ensures) in
    let e = c.log_length-length.ensures.0 in
    (f.same, omega (arith, e, c.if-out-length.false))
