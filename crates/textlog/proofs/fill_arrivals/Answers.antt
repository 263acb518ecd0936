-- A turn stores the values of the line that is read (`filled_next`); while lines are left, none is malformed.
use Rattle.std.proofs.Common.{◌<◌, length, sym, ◌∙◌, arith}
use Rattle.octets.proofs.Memory.{fill-next}
use Rattle.textlog.proofs.Filling.{filled_none, none-bad, small-number, filled_next, filled-done}
use Rattle.textlog.proofs.fill_arrivals.Goals as goal

pub loop-i-init : goal.loop-i-init
loop-i-init g c = filled_none g.N.Numbers.full c.args.log.now c.args.arrivals c.args.numbers.now c.args.times.now c.requires

pub returns-in_default : goal.returns-in_default
returns-in_default g c =
    let a = c.args in
    let l = c.loop-i in
    absurd
    (none-bad g.N.Numbers.full a.log.now a.arrivals a.numbers.now a.times.now c.requires l.greatest l.at l.i l.numbers l.times l.invariant
    c.loop-i-test.true (sym c.line_at.ensures ∙ c.in_default.is))

pub next_greatest-greatest-requires : goal.next_greatest-greatest-requires
next_greatest-greatest-requires g c =
    let a = c.args in
    let l = c.loop-i in
    small-number g.N.Numbers.full a.log.now a.arrivals a.numbers.now a.times.now c.requires l.greatest l.at l.i l.numbers l.times l.invariant
    c.in-Some.line.number c.in-Some.line.time c.in-Some.line.end (sym c.line_at.ensures ∙ c.in-Some.is) c.full_number-full.result
    c.full_number-full.ensures

pub loop-i-preserved : goal.loop-i-preserved
loop-i-preserved g c =
    let a = c.args in
    let l = c.loop-i in
    let h : l.i < length a.numbers.now = omega (arith, c.requires.numbers_room, c.loop-i-test.true) in
    let k : l.i < length a.times.now = omega (arith, c.requires.times_room, c.loop-i-test.true) in
    filled_next g.N.Numbers.full a.log.now a.arrivals a.numbers.now a.times.now c.requires l.greatest l.at l.i l.numbers l.times l.invariant
    c.in-Some.line.number c.in-Some.line.time c.in-Some.line.end (sym c.line_at.ensures ∙ c.in-Some.is) c.full_number-full.result
    c.full_number-full.ensures c.next_greatest-greatest.result c.next_greatest-greatest.ensures
    (λ xs e b d. fill-next xs a.numbers.now l.i 0 b h d e) (λ xs e b d. fill-next xs a.times.now l.i 0 b k d e)

pub returns : goal.returns
returns g c =
    let a = c.args in
    let l = c.loop-i in
    filled-done g.N.Numbers.full a.log.now a.arrivals a.numbers.now a.times.now c.requires l.greatest l.at l.i l.numbers l.times l.invariant
    c.loop-i-test.false
