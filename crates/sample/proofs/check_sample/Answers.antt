-- The tests are those of `sample_refusal`, in its order.
use Rattle.std.proofs.Common.{sym, ◌∙◌}
use Rattle.rfc4737.specs.Refused.{refusal_in}
use Rattle.rfc4737.proofs.Due.{first_one}
use Rattle.sample.specs.Judge.{sample_refusal}
use Rattle.sample.proofs.check_sample.Goals as goal

pub returns-then-outside : goal.returns-then-outside
unfolding sample_refusal
returns-then-outside c = simp (sym c.outside.ensures ∙ c.if-outside.true)

pub returns-then-some_unshown : goal.returns-then-some_unshown
unfolding sample_refusal
returns-then-some_unshown c =
    simp (sym c.outside.ensures ∙ c.if-outside.false, sym c.some_unshown.ensures ∙ c.if-some_unshown.true)

pub returns : goal.returns
unfolding sample_refusal
returns c =
    simp (sym c.outside.ensures ∙ c.if-outside.false, sym c.some_unshown.ensures ∙ c.if-some_unshown.false, sym c.check_lists.ensures)
    (sym (first_one (refusal_in c.check_lists.result)))
