use Rattle.std.proofs.Common.{◌≡◌, ℕ, ◌+◌, ◌-◌, ◌<◌, drop, refl, sym, ap, ◌∙◌, zero-add, arith}
use native.Mathlib.Nat.{sub-zero}
use Rattle.text_lines.specs.Line.{line_start}
use Rattle.text_lines.proofs.Firsts.{line-none, start-last, line_after, start_first, start-after}
use Rattle.text_lines.proofs.line_start.Goals as goal

pub loop-init : goal.loop-init
loop-init c = rw sub-zero (omega arith, refl, sym (zero-add _))

pub returns-then-text-at : goal.returns-then-text-at
returns-then-text-at c =
    let l = c.loop in
    let text = c.args.text.now in (
      l.invariant.0,
      l.invariant.1 ∙ line-none text l.at _ c.if-text-at.true,
      omega (arith, l.invariant.2, start-last text l.at (c.args.n - l.counter) c.if-text-at.true),
    )

pub loop-preserved : goal.loop-preserved
loop-preserved c =
    let l = c.loop in
    let text = c.args.text.now in
    let end = c.line_end-at in
    let some : 0 < c.args.n - l.counter = omega arith in
    let e : c.args.n - l.counter - 1 ≡ c.args.n - (l.counter + 1) = omega arith in
    rw (← e) (
      end.ensures.within,
      l.invariant.1 ∙ line_after text l.at end.result _ some end.ensures,
      l.invariant.2 ∙ start-after text l.at end.result _ some end.ensures,
    )

pub returns : goal.returns
returns c =
    let l = c.loop in
    let text = c.args.text.now in
    let z : c.args.n - l.counter ≡ 0 = omega arith in
    let s = l.invariant.2 ∙ ap (λ (k : ℕ). l.at + line_start k (drop l.at text)) z in
    (l.invariant.0, rw z at l.invariant.1, omega (arith, s, start_first (drop l.at text)))
