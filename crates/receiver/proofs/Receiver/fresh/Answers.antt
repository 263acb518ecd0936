-- Each return is a case of the definition; demand 3, the window cases, the answers by a moved clock and the sum of two moves are laws, and
-- what they say of the receiver returned is what they say of the definition's.
use Rattle.std.proofs.Common.{ℕ, ◌≡◌, List, sym, subst, ◌∙◌}
use Rattle.rfc4737.specs.declared.Arrival.{Arrival}
use Rattle.rfc4737.proofs.Moved.{moved_twice}
use Rattle.receiver.specs.declared.FreshAnswer.{FreshAnswer}
use Rattle.receiver.specs.Step.{fresh_of}
use Rattle.receiver.specs.Demand3.{Demand3}
use Rattle.receiver.specs.Moved.{MovedAnswers}
use Rattle.receiver.proofs.Demand3.{demand3-fresh}
use Rattle.receiver.proofs.WindowCases.{window-cases-hold}
use Rattle.receiver.proofs.Moved.{moved-answers}
use Rattle.receiver.proofs.Receiver.fresh.Goals as goal

module _ (k : ℕ) (r : FreshAnswer) (e : r ≡ fresh_of k) where
  demand3-here : (fed : List Arrival) → Demand3 r.state.stream.sent fed
  demand3-here fed = subst (λ (s : FreshAnswer). Demand3 s.state.stream.sent fed) (sym e) (demand3-fresh k fed)

  moved-here : MovedAnswers r.state.stream.sent
  moved-here = subst (λ (s : FreshAnswer). MovedAnswers s.state.stream.sent) (sym e) (moved-answers k)

pub returns-then-outside : goal.returns-then-outside
unfolding fresh_of
returns-then-outside c =
    let e : ◌≡◌ {A = FreshAnswer} (record { refusal = c.number.result; state = c.made_for.result }) (fresh_of c.args.k) =
    simp (sym c.outside.ensures ∙ c.if-outside.true, c.number.ensures, c.made_for.ensures) in record {
      fresh = e;
      demand3 = demand3-here c.args.k _ e;
      windowcases = window-cases-hold;
      moved = moved-here c.args.k _ e;
      twice = moved_twice;
    }

pub returns : goal.returns
unfolding fresh_of
returns c =
    let e : ◌≡◌ {A = FreshAnswer} (record { refusal = 0; state = c.made_for-2.result }) (fresh_of c.args.k) =
    simp (sym c.outside.ensures ∙ c.if-outside.false, c.made_for-2.ensures) in record {
      fresh = e;
      demand3 = demand3-here c.args.k _ e;
      windowcases = window-cases-hold;
      moved = moved-here c.args.k _ e;
      twice = moved_twice;
    }
