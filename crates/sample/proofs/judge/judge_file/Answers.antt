-- The arrival in a chunk is the first of those left (`items-left`): it is refused, or judging goes on after it from the next reference.
use Rattle.std.proofs.Common.{◌≡◌, ℕ, length, sym, ap, ◌∙◌, rules}
use Rattle.std.proofs.lemmas.Result.{err_from_is_err_and}
use Rattle.std.specs.Slice.Iter.{chunks_exact_rest}
use Rattle.rfc4737.specs.Judge.{judge, judge_one}
use Rattle.rfc4737.proofs.Judged.{left-err, left-ok}
use Rattle.sample.specs.Format.{arrival_width}
use Rattle.sample.specs.Decode.{arrival_in}
use Rattle.sample.proofs.Chunks.{items-left, items-all, items-none}
use Rattle.sample.proofs.judge.judge_file.Goals as goal

pub loop-twelve-init : goal.loop-twelve-init
loop-twelve-init c =
    let a = c.args in
    let e = items-all arrival_in a.at a.count a.file.now (chunks_exact_rest c.into_iter-twelve-iterator.result) c.requires (search rules) in
    record { size = search rules; finite = search rules; left = ap (judge a.sent 0) (sym e) }

pub returns-in_err-judged : goal.returns-in_err-judged
returns-in_err-judged c =
    let p = err_from_is_err_and c.from_residual.result c.from_residual.ensures.1 in
    let s = c.in-Some.ensures.steps in
    let n : length c.in-Some.twelve.now ≡ arrival_width = s.1.1 ∙ c.loop-twelve.invariant.size in
    let e = items-left arrival_in (chunks_exact_rest c.loop-twelve.twelve-iterator) c.in-Some.twelve.now (chunks_exact_rest c.next.new.self) s.1.0 n in
    rw (p.1, p.2, c.loop-twelve.invariant.left, e, ← c.arrival_of-arrival.ensures)
    (left-err _ _ _ _ _
    (rw c.in_err-judged.was at c.judge_next-judged.ensures.refusal
    ∙ ap (λ (n : ℕ). judge_one c.args.sent c.loop-twelve.reference (record { number = n; time = c.arrival_of-arrival.result.time })) c.from.ensures))

pub loop-twelve-preserved : goal.loop-twelve-preserved
loop-twelve-preserved c =
    let s = c.in-Some.ensures.steps in
    let n : length c.in-Some.twelve.now ≡ arrival_width = s.1.1 ∙ c.loop-twelve.invariant.size in
    let e = items-left arrival_in (chunks_exact_rest c.loop-twelve.twelve-iterator) c.in-Some.twelve.now (chunks_exact_rest c.next.new.self) s.1.0 n in
    record {
      size = s.0 ∙ c.loop-twelve.invariant.size;
      finite = search rules;
      left = rw (c.loop-twelve.invariant.left, e, ← c.arrival_of-arrival.ensures, c.judge_next-judged.ensures.next)
          (left-ok _ _ _ _
          (rw c.in_ok-judged.was at c.judge_next-judged.ensures.refusal
          ∙ ap (λ (n : ℕ). judge_one c.args.sent c.loop-twelve.reference (record { number = n; time = c.arrival_of-arrival.result.time })) c.from.ensures));
    }

pub returns : goal.returns
unfolding judge
returns c =
    let s = c.in-None.ensures.steps in
    let h = items-none arrival_in (chunks_exact_rest c.loop-twelve.twelve-iterator) (search rules) in
    sym (c.loop-twelve.invariant.left ∙ ap (judge c.args.sent c.loop-twelve.reference) h)
