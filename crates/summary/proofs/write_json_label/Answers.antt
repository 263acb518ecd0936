-- `summary::write_json_label` meets its contract: a label over 64 octets is refused by 3, another one is written into a text that has room
-- for any, and `hand_over` copies it. Assumes nothing.
use Rattle.std.proofs.Common.{ℕ, ◌<◌, ◌≡◌, Bool, length, sym, ap, arith}
use borrow.Author.Tests.{le-leb, lt-leb}
use Rattle.rfc4737.specs.Refusals.{outside, refusal_if, long_label}
use Rattle.rfc4737.proofs.Due.{not-outside}
use Rattle.sample.specs.Judge.{judge_label}
use Rattle.sample.proofs.Output.{output-refused}
use Rattle.summary.specs.Json.{label_member}
use Rattle.summary.proofs.Pieces.{output-of}
use Rattle.summary.proofs.write_json_label.Goals as goal

-- a label over 64 octets is refused by 3
long : (n : ℕ) → 64 < n → long_label ≡ judge_label n
unfolding outside
long n h = sym (simp (le-leb 0 n (omega arith), lt-leb n 64 h))

pub returns-then-label-gt-LABEL_MOST-clause-label_to : goal.returns-then-label-gt-LABEL_MOST-clause-label_to
returns-then-label-gt-LABEL_MOST-clause-label_to c =
    rw c.from.ensures (output-refused _ _ _ long_label (long _ c.if-label-gt-LABEL_MOST.true) (λ z. omega (arith, z)))

pub returns-clause-label_to : goal.returns-clause-label_to
returns-clause-label_to c =
    let label = c.args.label.now in
    let none : 0 ≡ judge_label (length label) =
    sym (ap (λ (b : Bool). refusal_if b long_label) (not-outside 0 64 _ (omega arith) c.if-label-gt-LABEL_MOST.false)) in
    let text : c.octets.result.now ≡ label_member label =
    simp (c.octets.ensures, c.put_label_member.ensures.written, c.new-text.ensures) in
    output-of none text (c.hand_over.ensures.written (omega (arith, ap length c.octets.ensures, c.put_label_member.ensures.room, ap length c.new-text.ensures)))
