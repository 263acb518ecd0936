-- A lost record is `judging-lost`, an arrival `judging-next`.
use Rattle.std.proofs.Common.{◌≡◌, ◌<◌, Bool, true, false, ◌||◌, [], ◌∷◌, refl, sym, ap, ◌∙◌, rules}
use Rattle.rfc4737.specs.Refusals.{refusal_if, first_refusal, number_outside}
use Rattle.owamp.specs.Record.{record_count}
use Rattle.owamp.proofs.InTurn.{judging-start, judging-done, judging-lost, judging-next}
use Rattle.owamp.proofs.judge.judge_arrivals.Goals as goal
use Rattle.owamp.proofs.judge.judge_arrivals.Goals.{then-time_of-ne0, else-time_of-ne0}

-- the first refusal of two tests
either : (b o : Bool) → refusal_if (b || o) number_outside ≡ first_refusal (refusal_if b number_outside ∷ refusal_if o number_outside ∷ [])
either true o = refl
either false true = refl
either false false = refl

pub loop-i-init : goal.loop-i-init
loop-i-init c = judging-start _ _

pub loop-i-preserved : goal.loop-i-preserved
loop-i-preserved c =
    let a = c.args in
    let h : c.loop-i.i < record_count a.records.now = search rules in
    elim c.if-time_of-ne0.branch [
      | then-time_of-ne0 w ↦ rw (w.arrivals-is, w.number_outside-is)
          (judging-next a.k a.records.now c.loop-i.invariant h (λ z. w.if-time_of-ne0.true (c.time_of.ensures ∙ z)) w.number_of.ensures
          (ap (λ (b : Bool). refusal_if b number_outside) w.outside-number_outside.ensures) (either c.loop-i.number_outside w.outside-number_outside.result))
      | else-time_of-ne0 w ↦ rw (w.arrivals-is, w.number_outside-is)
          (judging-lost a.k a.records.now c.loop-i.invariant h (sym c.time_of.ensures ∙ w.if-time_of-ne0.false))
    ]

pub returns : goal.returns
returns c = judging-done c.args.k c.args.records.now c.loop-i.invariant (search rules)
