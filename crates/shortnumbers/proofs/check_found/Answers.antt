-- At each return the tests that led there say which refusal is the first; there are as many numbers found as short ones.
use Rattle.std.proofs.Common.{sym, ◌∙◌, length}
use borrow.Author.Tests.{eq-eqb, ne_eqb}
use Rattle.rfc4737.specs.Judge.{arrivals_most, refusal_of_lists}
use Rattle.rfc4737.specs.Refused.{refusal_in}
use Rattle.rfc4737.proofs.Due.{between, first_one}
use Rattle.shortnumbers.proofs.Lists.{found-length}
use Rattle.shortnumbers.proofs.check_found.Goals as goal

pub returns-then-outside : goal.returns-then-outside
unfolding refusal_of_lists
returns-then-outside c = simp (sym c.outside.ensures ∙ c.if-outside.true)

pub returns-then-outside-2 : goal.returns-then-outside-2
unfolding refusal_of_lists
returns-then-outside-2 c =
    simp (
      found-length c.args.range c.args.shorts.now,
      sym c.outside.ensures ∙ c.if-outside.false,
      sym c.outside-2.ensures ∙ c.if-outside-2.true,
    )

pub returns-then-shorts-times : goal.returns-then-shorts-times
unfolding refusal_of_lists
returns-then-shorts-times c =
    simp (
      found-length c.args.range c.args.shorts.now,
      sym c.outside.ensures ∙ c.if-outside.false,
      sym c.outside-2.ensures ∙ c.if-outside-2.false,
      ne_eqb _ _ c.if-shorts-times.true,
    )

pub judge_found-requires : goal.judge_found-requires
judge_found-requires c =
    let m = between 0 arrivals_most (length c.args.shorts.now) (sym c.outside-2.ensures ∙ c.if-outside-2.false) in
    (c.requires, m.1, sym c.if-shorts-times.false)

pub returns : goal.returns
unfolding refusal_of_lists
returns c =
    simp (
      found-length c.args.range c.args.shorts.now,
      sym c.outside.ensures ∙ c.if-outside.false,
      sym c.outside-2.ensures ∙ c.if-outside-2.false,
      eq-eqb _ _ c.if-shorts-times.false,
      sym c.judge_found.ensures,
    )
    (sym (first_one (refusal_in c.judge_found.result)))
