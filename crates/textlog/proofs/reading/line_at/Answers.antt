-- Each return is a case of `line_in`, by its law of LinesAtPlaces.antt.
use Rattle.std.proofs.Common.{sym, ◌≡◌, ◌∙◌, arith}
use Rattle.textlog.proofs.LinesAtPlaces.{line-none, line-over, line_other, line-time}
use Rattle.textlog.proofs.reading.line_at.Goals as goal

pub returns-then-end-at : goal.returns-then-end-at
returns-then-end-at c =
    let a = c.args in
    let r = c.number_at-digits in
    line-none a.log.now a.at r.result r.ensures.value c.if-end-at.true

pub returns-in_default : goal.returns-in_default
returns-in_default c =
    let a = c.args in
    let r = c.number_at-digits in
    line-over a.log.now a.at r.result r.ensures.value c.if-end-at.false
    (omega (arith, c.in_default.ensures))

pub returns-then-octet_at-ne59 : goal.returns-then-octet_at-ne59
returns-then-octet_at-ne59 c =
    let a = c.args in
    let r = c.number_at-digits in
    line_other a.log.now a.at r.result r.ensures.value c.if-end-at.false (omega (arith, c.in-Ok.ensures))
    (λ o. c.if-octet_at-ne59.true (c.octet_at.ensures ∙ o))

pub returns : goal.returns
returns c =
    let a = c.args in
    let r = c.number_at-digits in
    let number : c.in-Ok.number ≡ r.result.value = omega (arith, c.in-Ok.ensures) in
    line-time a.log.now a.at r.result r.ensures.value c.if-end-at.false (omega (arith, c.in-Ok.ensures))
    (sym c.octet_at.ensures ∙ c.if-octet_at-ne59.false) (rw (← number) c.time_at.ensures)
