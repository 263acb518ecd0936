-- By the judgement: the log is refused, a list is too short, or both are filled.
use Rattle.std.proofs.Common.{Ok, Err, refl, sym, ap, ◌∙◌, arith}
use Rattle.std.proofs.lemmas.Result.{err_from_is_err_and}
use Rattle.rfc4737.proofs.Refused.{number-above}
use Rattle.textlog.specs.Decode.{decoded_lines}
use Rattle.textlog.specs.declared.LogJudgement.{LogJudgement}
use Rattle.textlog.specs.Numbers.{lines_by}
use Rattle.textlog.specs.Calls.{judgement_in}
use Rattle.textlog.proofs.Accepted.{accepted-decoded}
use Rattle.textlog.proofs.Answers.{import-refused, import-short, rooms, import-filled}
use Rattle.textlog.proofs.import_lists.Goals as goal

pub returns-in_err-arrivals : goal.returns-in_err-arrivals
returns-in_err-arrivals g c =
    let a = c.args in
    let d = c.in_err-arrivals.field-0.0 in
    let p = err_from_is_err_and c.from_residual.result c.from_residual.ensures.1 in
    rw (p.1, p.2)
    (import-refused a.k (lines_by g.N.Numbers.full 0 (decoded_lines a.log.now)) a.numbers.now a.times.now (judgement_in (Err d))
    c.in_err-arrivals.ensures (λ z. omega (arith, number-above d.refusal)) refl)

pub returns-then-too_short : goal.returns-then-too_short
returns-then-too_short g c =
    let a = c.args in
    import-short a.k (lines_by g.N.Numbers.full 0 (decoded_lines a.log.now)) a.numbers.now a.times.now
    (judgement_in (Ok c.in_ok-arrivals.arrivals)) c.in_ok-arrivals.ensures refl (sym c.too_short.ensures ∙ c.if-too_short.true) refl

pub fill_arrivals-requires : goal.fill_arrivals-requires
fill_arrivals-requires g c =
    let a = c.args in
    let ds = lines_by g.N.Numbers.full 0 (decoded_lines a.log.now) in
    let e = c.in_ok-arrivals.ensures in
    let r =
    rooms a.k ds a.numbers.now a.times.now (judgement_in (Ok c.in_ok-arrivals.arrivals)) e refl (sym c.too_short.ensures ∙ c.if-too_short.false) in
    let d = accepted-decoded a.k ds (ap (λ (y : LogJudgement). y.refusal) (sym e)) in
    let m = ap (λ (y : LogJudgement). y.arrivals) (e ∙ d.answer) in
    record {
      k = a.k;
      most = d.most;
      accepted = d.lines;
      many = m;
      numbers_room = omega (arith, m, r.0);
      times_room = omega (arith, m, r.1);
    }

pub returns : goal.returns
returns g c =
    let a = c.args in
    import-filled a.k (lines_by g.N.Numbers.full 0 (decoded_lines a.log.now)) a.numbers.now a.times.now
    (judgement_in (Ok c.in_ok-arrivals.arrivals)) c.in_ok-arrivals.ensures refl (sym c.too_short.ensures ∙ c.if-too_short.false)
    c.fill_arrivals.ensures.0 c.fill_arrivals.ensures.1
