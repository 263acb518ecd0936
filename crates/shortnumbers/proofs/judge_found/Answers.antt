-- A turn returns the refusal of the arrival at i (`judge-stop`) or goes on past it (`judge-next`).
use Rattle.std.proofs.Common.{ℕ, ◌≡◌, ◌+◌, ◌<◌, refl, sym, ap, ◌∙◌, arith, length, drop}
use Rattle.std.proofs.lemmas.Result.{err_from_is_err_and}
use Rattle.rfc4737.specs.Judge.{arrivals_from, judge}
use Rattle.rfc4737.proofs.Pairs.{arrivals-length}
use Rattle.rfc4737.proofs.Judged.{judge-stop, judge-next, judge-done}
use Rattle.rfc4737.proofs.Refused.{number-above}
use Rattle.shortnumbers.specs.declared.Finder.{Finder}
use Rattle.shortnumbers.specs.InTurn.{greatest_of}
use Rattle.shortnumbers.specs.Lists.{numbers_found}
use Rattle.shortnumbers.proofs.Lists.{none, found-length, greatest-next, arrival-here}
use Rattle.shortnumbers.proofs.judge_found.Goals as goal

pub loop-i-init : goal.loop-i-init
unfolding greatest_of
loop-i-init c = record { range = refl; few = omega arith; greatest = refl; judged = refl }

pub returns-in_err-judged : goal.returns-in_err-judged
returns-in_err-judged c =
    let p = err_from_is_err_and c.from_residual.result c.from_residual.ensures.1 in
    let i = c.loop-i.invariant in
    let lt : c.loop-i.i < length c.args.shorts.now = c.loop-i-test.true in
    let n = found-length c.args.range c.args.shorts.now in
    let m = arrivals-length (numbers_found c.args.range c.args.shorts.now) c.args.times.now (c.requires.2 ∙ sym n) in
    rw (p.1, p.2)
    (judge-stop _ (arrivals_from (numbers_found c.args.range c.args.shorts.now) c.args.times.now) c.loop-i.reference c.loop-i.i none _
    (omega arith)
    (arrival-here _ _ _ _ _ lt i.greatest (rw i.range at c.find-number.ensures.number) _ c.requires.2)
    i.judged _ (rw c.in_err-judged.was at c.judge_next-judged.ensures.refusal) (λ z. omega (arith, number-above c.in_err-judged.field-0.0)))

pub loop-i-preserved : goal.loop-i-preserved
loop-i-preserved c =
    let i = c.loop-i.invariant in
    let e = rw i.range at c.find-number.ensures.number in
    let g : c.find-number.new.self.greatest ≡ _ = ap (λ (f : Finder). f.greatest) c.find-number.ensures.greatest in
    let lt : c.loop-i.i < length c.args.shorts.now = c.loop-i-test.true in
    let n = found-length c.args.range c.args.shorts.now in
    let m = arrivals-length (numbers_found c.args.range c.args.shorts.now) c.args.times.now (c.requires.2 ∙ sym n) in
    let arrivals = arrivals_from (numbers_found c.args.range c.args.shorts.now) c.args.times.now in record {
      range = ap (λ (f : Finder). f.range) c.find-number.ensures.greatest ∙ i.range;
      few = omega (arith, g, c.find-number.ensures.near, i.few);
      greatest = greatest-next _ _ _ _ _ lt i.greatest e _ g;
      judged = judge-next _ arrivals c.loop-i.reference c.loop-i.i none _ (omega arith)
          (arrival-here _ _ _ _ _ lt i.greatest e _ c.requires.2) i.judged _ (rw c.in_ok-judged.was at c.judge_next-judged.ensures.refusal) refl
          ∙ ap (λ (r : ℕ). judge c.args.k r (drop (c.loop-i.i + 1) arrivals)) (sym c.judge_next-judged.ensures.next);
    }

pub returns : goal.returns
returns c =
    let n = found-length c.args.range c.args.shorts.now in
    let m = arrivals-length (numbers_found c.args.range c.args.shorts.now) c.args.times.now (c.requires.2 ∙ sym n) in
    judge-done _ (arrivals_from (numbers_found c.args.range c.args.shorts.now) c.args.times.now) c.loop-i.reference c.loop-i.i (omega arith)
    c.loop-i.invariant.judged
