-- Each return is a law of Judging.antt for the line that is read at `at`, which with its full number is the first of those left, or that
-- none is. A number that is not refused is at most K.
use Rattle.std.proofs.Common.{ℕ, ◌+◌, drop, refl, sym, ap, ◌∙◌, arith}
use Rattle.rfc4737.specs.Refused.{number_of}
use Rattle.rfc4737.proofs.Refused.{number-above}
use Rattle.rfc4737.proofs.Judged.{one_split}
use Rattle.textlog.specs.Decode.{decoded_lines, judge_lines}
use Rattle.textlog.specs.Numbers.{lines_by}
use Rattle.textlog.proofs.Lines.{line_read, line-unread}
use Rattle.textlog.proofs.Judging.{judge-bad, judge-done, judge-many, judge-stop, judge-next, none_left}
use Rattle.textlog.proofs.Turns.{lines_none, lines-bad, lines-next}
use Rattle.textlog.proofs.judge_lines.Goals as goal

pub loop-at-init : goal.loop-at-init
loop-at-init g c = record { small = omega arith; few = omega arith; left = refl }

pub returns-in_default : goal.returns-in_default
returns-in_default g c =
    let l = c.loop-at in
    let u = line-unread c.args.log.now l.at c.loop-at-test.true (sym c.line_at.ensures ∙ c.in_default.is) in
    rw c.refused_after.ensures (judge-bad c.args.k _ l.count l.reference _ l.invariant.left (lines-bad g.N.Numbers.full l.greatest u.lead))

pub returns-then-count-ge-ARRIVALS_MOST : goal.returns-then-count-ge-ARRIVALS_MOST
returns-then-count-ge-ARRIVALS_MOST g c =
    let l = c.loop-at in
    let r = line_read c.args.log.now l.at (sym c.line_at.ensures ∙ c.in-Some.is) in
    rw c.refused_after-then-count-ge-ARRIVALS_MOST.ensures
    (judge-many c.args.k _ l.count l.reference _ l.invariant.left _ _ (lines-next g.N.Numbers.full l.greatest _ _ r.lead refl)
    c.if-count-ge-ARRIVALS_MOST.true)

pub returns-in-Err : goal.returns-in-Err
returns-in-Err g c =
    let l = c.loop-at in
    let r = line_read c.args.log.now l.at (sym c.line_at.ensures ∙ c.in-Some.is) in
    rw c.refused_after-in-Err.ensures
    (judge-stop c.args.k _ l.count l.reference _ l.invariant.left _ _
    (lines-next g.N.Numbers.full l.greatest _ _ r.lead c.full_number-number.ensures) c.if-count-ge-ARRIVALS_MOST.false
    (number_of c.in-Err.refusal) (rw c.in-Err.is at c.judge_next-judged.ensures.refusal) (λ z. omega (arith, number-above c.in-Err.refusal)))

pub next_greatest-greatest-requires : goal.next_greatest-greatest-requires
next_greatest-greatest-requires g c =
    let o = one_split _ _ _ (sym (rw c.in_default-refusal.is at c.judge_next-judged.ensures.refusal)) in
    omega (arith, o.0.1, c.requires)

pub loop-at-smaller : goal.loop-at-smaller
loop-at-smaller g c =
    let r = line_read c.args.log.now c.loop-at.at (sym c.line_at.ensures ∙ c.in-Some.is) in
    omega (arith, r.onward, c.loop-at-test.true)

pub loop-at-preserved : goal.loop-at-preserved
loop-at-preserved g c =
    let l = c.loop-at in
    let r = line_read c.args.log.now l.at (sym c.line_at.ensures ∙ c.in-Some.is) in
    let o = one_split _ _ _ (sym (rw c.in_default-refusal.is at c.judge_next-judged.ensures.refusal)) in
    let m = c.next_greatest-greatest.ensures in
    record {
      small = omega (arith, m, o.0.1, c.requires, l.invariant.small);
      few = omega (arith, c.if-count-ge-ARRIVALS_MOST.false);
      left =
          judge-next c.args.k _ l.count l.reference _ l.invariant.left _ _
          (lines-next g.N.Numbers.full l.greatest _ _ r.lead c.full_number-number.ensures) c.if-count-ge-ARRIVALS_MOST.false
          0 (rw c.in_default-refusal.is at c.judge_next-judged.ensures.refusal) refl c.judge_next-judged.ensures.next
          ∙ ap (λ (x : ℕ). judge_lines c.args.k (l.count + 1) c.judge_next-judged.result.reference
          (lines_by g.N.Numbers.full x (decoded_lines (drop c.in-Some.line.end c.args.log.now)))) (sym m);
    }

pub returns : goal.returns
returns g c =
    let l = c.loop-at in
    judge-done c.args.k _ l.count l.reference _ l.invariant.left
    (lines_none g.N.Numbers.full l.greatest (none_left c.args.log.now l.at c.loop-at-test.false))
