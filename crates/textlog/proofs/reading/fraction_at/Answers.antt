-- Each return is a case of `fraction_in`, by its law of LinesAtPlaces.antt; at most three digits are below 1,000.
use Rattle.std.proofs.Common.{sym, ◌∙◌, arith}
use Rattle.textlog.proofs.LinesAtPlaces.{fraction-none, fraction-many, fraction-other, small, fraction-ends}
use Rattle.textlog.proofs.reading.fraction_at.Goals as goal
use Rattle.textlog.proofs.reading.fraction_at.Goals.{then-count-eq0-via-then-count-eq0, then-count-eq0-via-else-count-eq0+then-count-gt-DECIMALS_MOST, then-count-eq0-via-else-count-eq0+else-count-gt-DECIMALS_MOST+then-octet_at-ne10}

pub returns-then-count-eq0 : goal.returns-then-count-eq0
returns-then-count-eq0 c =
    let a = c.args in
    let r = c.number_at-digits in
    elim c.then-count-eq0.branch [
      | then-count-eq0-via-then-count-eq0 w ↦ fraction-none a.log.now a.at r.result r.ensures.value a.number a.whole w.if-count-eq0.true
      | then-count-eq0-via-else-count-eq0+then-count-gt-DECIMALS_MOST w ↦
          fraction-many a.log.now a.at r.result r.ensures.value a.number a.whole w.if-count-gt-DECIMALS_MOST.true
      | then-count-eq0-via-else-count-eq0+else-count-gt-DECIMALS_MOST+then-octet_at-ne10 w ↦
          fraction-other a.log.now a.at r.result r.ensures.value a.number a.whole w.if-count-eq0.false w.if-count-gt-DECIMALS_MOST.false
          (λ o. w.if-octet_at-ne10.true (w.octet_at.ensures ∙ o))
    ]

pub thousandths-requires : goal.thousandths-requires
thousandths-requires c =
    let a = c.args in
    let r = c.number_at-digits in
    let some = c.if-count-eq0.false in
    let few = c.if-count-gt-DECIMALS_MOST.false in
    let s =
    small a.log.now a.at r.result r.ensures.value a.number a.whole some few (sym c.octet_at.ensures ∙ c.if-octet_at-ne10.false) in
    (omega arith, omega arith, omega arith)

pub returns : goal.returns
returns c =
    let a = c.args in
    let r = c.number_at-digits in
    fraction-ends a.log.now a.at r.result r.ensures.value a.number a.whole c.if-count-eq0.false c.if-count-gt-DECIMALS_MOST.false
    (sym c.octet_at.ensures ∙ c.if-octet_at-ne10.false) c.thousandths.result c.thousandths.ensures c.in_range.ensures
