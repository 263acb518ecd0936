-- The tests are the stages of `records_refusal` in its order, so each return is the first refusal after those that are 0.
use Rattle.std.proofs.Common.{◌≡◌, ℕ, Bool, sym, ap, ◌∙◌}
use borrow.Author.Tests.{eq-eqb, ne_eqb}
use Rattle.rfc4737.specs.Refusals.{outside, refusal_if, number_outside}
use Rattle.rfc4737.specs.Judge.{arrivals_most}
use Rattle.rfc4737.proofs.Due.{first_one}
use Rattle.owamp.specs.Record.{records_arrivals}
use Rattle.owamp.specs.Judge.{judge_numbers, records_refusal}
use Rattle.owamp.proofs.judge.check_records.Goals as goal

-- whether there are too many arrivals, by their number as it was counted
counted : (n m : ℕ) (b : Bool) → n ≡ m → outside 0 arrivals_most n ≡ b → outside 0 arrivals_most m ≡ b
counted n m b e h = ap (outside 0 arrivals_most) (sym e) ∙ h

pub returns-then-records-ne0-clause-refusal : goal.returns-then-records-ne0-clause-refusal
unfolding records_refusal
returns-then-records-ne0-clause-refusal c = simp (ne_eqb _ _ c.if-records-ne0.true)

pub returns-then-outside-clause-refusal : goal.returns-then-outside-clause-refusal
unfolding records_refusal
returns-then-outside-clause-refusal c = simp (eq-eqb _ _ c.if-records-ne0.false, sym c.outside.ensures ∙ c.if-outside.true)

pub returns-then-outside-2-clause-refusal : goal.returns-then-outside-2-clause-refusal
unfolding records_refusal
returns-then-outside-2-clause-refusal c =
    simp (
      eq-eqb _ _ c.if-records-ne0.false,
      sym c.outside.ensures ∙ c.if-outside.false,
      counted _ _ _ c.judge_arrivals-judged.ensures.0 (sym c.outside-2.ensures ∙ c.if-outside-2.true),
    )

pub returns-then-judged-clause-refusal : goal.returns-then-judged-clause-refusal
unfolding records_refusal
returns-then-judged-clause-refusal c =
    simp (
      eq-eqb _ _ c.if-records-ne0.false,
      sym c.outside.ensures ∙ c.if-outside.false,
      counted _ _ _ c.judge_arrivals-judged.ensures.0 (sym c.outside-2.ensures ∙ c.if-outside-2.false),
      first_one (judge_numbers c.args.k (records_arrivals c.args.records.now)),
    ) (sym (ap (λ (b : Bool). refusal_if b number_outside) c.if-judged.true) ∙ c.judge_arrivals-judged.ensures.1)

pub returns-clause-refusal : goal.returns-clause-refusal
unfolding records_refusal
returns-clause-refusal c =
    simp (
      eq-eqb _ _ c.if-records-ne0.false,
      sym c.outside.ensures ∙ c.if-outside.false,
      counted _ _ _ c.judge_arrivals-judged.ensures.0 (sym c.outside-2.ensures ∙ c.if-outside-2.false),
      first_one (judge_numbers c.args.k (records_arrivals c.args.records.now)),
    ) (sym (ap (λ (b : Bool). refusal_if b number_outside) c.if-judged.false) ∙ c.judge_arrivals-judged.ensures.1)
