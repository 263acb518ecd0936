-- Each return is a case of `time_in`, by its law of LinesAtPlaces.antt; the mark stands in the log, so the offset after it does not wrap.
use Rattle.std.proofs.Common.{sym, ◌∙◌, arith}
use Rattle.textlog.proofs.LeadingDigits.{mark-present}
use Rattle.textlog.proofs.LinesAtPlaces.{time-none, time-ends, time-other, time-parted}
use Rattle.textlog.proofs.reading.time_at.Goals as goal

pub returns-then-end-at : goal.returns-then-end-at
returns-then-end-at c =
    let a = c.args in
    let r = c.number_at-digits in
    time-none a.log.now a.at r.result r.ensures.value a.number c.if-end-at.true

pub returns-then-octet-eq10 : goal.returns-then-octet-eq10
returns-then-octet-eq10 c =
    let a = c.args in
    let r = c.number_at-digits in
    time-ends a.log.now a.at r.result r.ensures.value a.number c.if-end-at.false (sym c.octet_at-octet.ensures ∙ c.if-octet-eq10.true)
    c.in_range.ensures

pub returns-then-not-is_decimal_mark : goal.returns-then-not-is_decimal_mark
returns-then-not-is_decimal_mark c =
    let a = c.args in
    let r = c.number_at-digits in
    let o = c.octet_at-octet.ensures in
    time-other a.log.now a.at r.result r.ensures.value a.number c.if-end-at.false (λ h. c.if-octet-eq10.false (o ∙ h))
    (rw (← o) (sym c.is_decimal_mark.ensures ∙ c.if-not-is_decimal_mark.true))

pub overflow_add-end-2 : goal.overflow_add-end-2
overflow_add-end-2 c =
    let o = c.octet_at-octet.ensures in
    let b =
    mark-present c.args.log.now c.number_at-digits.result.end (rw (← o) (sym c.is_decimal_mark.ensures ∙ c.if-not-is_decimal_mark.false)) in
    omega arith

pub returns : goal.returns
returns c =
    let a = c.args in
    let r = c.number_at-digits in
    let o = c.octet_at-octet.ensures in
    time-parted a.log.now a.at r.result r.ensures.value a.number c.if-end-at.false (λ h. c.if-octet-eq10.false (o ∙ h))
    (rw (← o) (sym c.is_decimal_mark.ensures ∙ c.if-not-is_decimal_mark.false)) c.fraction_at.ensures
