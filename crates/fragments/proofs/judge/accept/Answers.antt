-- The tests are those of `order_refusal` in its order, so at each return the refusal is the first after those that are 0.
use Rattle.std.proofs.Common.{[], ◌∷◌, length, ◌||◌, refl, sym, ◌∙◌, arith, ltb}
use Rattle.std.proofs.lemmas.Result.{err_from_is_err_and}
use Rattle.std.proofs.lemmas.Grind.{get_or_default_zero}
use borrow.Author.Tests.{lt-ltb, le-ltb}
use Rattle.rfc4737.specs.Refusals.{refusal_if, output_short}
use Rattle.rfc4737.proofs.Due.{first-stop}
use Rattle.rfc4737.proofs.Refused.{number-above}
use Rattle.fragments.specs.Calls.{order_refusal}
use Rattle.fragments.proofs.Accepted.{same_lists}
use Rattle.fragments.proofs.judge.accept.Goals as goal
use Rattle.fragments.proofs.judge.accept.Goals.{then-flag_room-n-via-then-flag_room-n, then-flag_room-n-via-else-flag_room-n+then-used_room-n}

pub returns-then-outside-clause-refusal : goal.returns-then-outside-clause-refusal
unfolding order_refusal
returns-then-outside-clause-refusal c = rw (sym c.outside.ensures ∙ c.if-outside.true)

pub returns-then-outside-2-clause-refusal : goal.returns-then-outside-2-clause-refusal
unfolding order_refusal
returns-then-outside-2-clause-refusal c =
    rw (sym c.outside.ensures ∙ c.if-outside.false, sym c.outside-2.ensures ∙ c.if-outside-2.true)

pub returns-then-not-same_lengths-clause-refusal : goal.returns-then-not-same_lengths-clause-refusal
unfolding order_refusal
returns-then-not-same_lengths-clause-refusal c =
    rw (
      sym c.outside.ensures ∙ c.if-outside.false,
      sym c.outside-2.ensures ∙ c.if-outside-2.false,
      sym c.same_lengths.ensures ∙ c.if-not-same_lengths.true,
    )

pub invariant_of-arrivals : goal.invariant_of-arrivals
invariant_of-arrivals c = record {
  same_lengths = same_lists _ _ _ _ _ (sym c.same_lengths.ensures ∙ c.if-not-same_lengths.false);
  short = λ k d h. omega (arith, get_or_default_zero c.args.lengths.now k d h, c.type_inv.lengths k);
}

pub returns-in_err-judge_pieces-clause-refusal : goal.returns-in_err-judge_pieces-clause-refusal
unfolding order_refusal
returns-in_err-judge_pieces-clause-refusal c =
    let p = err_from_is_err_and c.from_residual.result c.from_residual.ensures.1 in
    let d = c.in_err-judge_pieces.field-0.0 in
    let n = length c.args.numbers.now in
    rw (
      p.1,
      p.2,
      sym c.outside.ensures ∙ c.if-outside.false,
      sym c.outside-2.ensures ∙ c.if-outside-2.false,
      sym c.same_lengths.ensures ∙ c.if-not-same_lengths.false,
      sym c.in_err-judge_pieces.ensures,
    )
    (first-stop _ (refusal_if (ltb c.args.flag_room n || ltb c.args.used_room n) output_short ∷ []) refl
    (λ q. absurd (omega (arith, number-above d, q))))

pub returns-then-flag_room-n-clause-refusal : goal.returns-then-flag_room-n-clause-refusal
unfolding order_refusal
returns-then-flag_room-n-clause-refusal c =
    let o = sym c.outside.ensures ∙ c.if-outside.false in
    let m = sym c.outside-2.ensures ∙ c.if-outside-2.false in
    let s = sym c.same_lengths.ensures ∙ c.if-not-same_lengths.false in
    let j = sym c.in_ok-judge_pieces.ensures in
    elim c.then-flag_room-n.branch [
      | then-flag_room-n-via-then-flag_room-n w ↦ rw (o, m, s, j, lt-ltb _ _ w.if-flag_room-n.true)
      | then-flag_room-n-via-else-flag_room-n+then-used_room-n w
          ↦ rw (o, m, s, j, le-ltb _ _ w.if-flag_room-n.false, lt-ltb _ _ w.if-used_room-n.true)
    ]

pub returns-clause-refusal : goal.returns-clause-refusal
unfolding order_refusal
returns-clause-refusal c =
    rw (
      sym c.outside.ensures ∙ c.if-outside.false,
      sym c.outside-2.ensures ∙ c.if-outside-2.false,
      sym c.same_lengths.ensures ∙ c.if-not-same_lengths.false,
      sym c.in_ok-judge_pieces.ensures,
      le-ltb _ _ c.if-flag_room-n.false,
      le-ltb _ _ c.if-used_room-n.false,
    )
