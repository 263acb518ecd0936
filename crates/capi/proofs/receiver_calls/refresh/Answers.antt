-- `capi::receiver_calls::refresh` meets its contract: K is refused, and the parts are as they were, or they are those of a receiver made
-- for K. Here r is the receiver of the parts. Assumes nothing.
use Rattle.std.proofs.Common.{◌≡◌, ℕ, true, false, refl, sym, ◌∙◌}
use Rattle.rfc4737.specs.Refusals.{outside, sent_outside}
use Rattle.rfc4737.specs.Judge.{sent_most}
use Rattle.receiver.specs.declared.Receiver.{Receiver}
use Rattle.receiver.specs.Step.{made_for, fresh_of}
use Rattle.capi.specs.Receiver.{fresh_in}
use Rattle.capi.proofs.receiver_calls.refresh.Goals as goal

refused : (r : Receiver) (k : ℕ) → outside 1 sent_most k ≡ true → record { refusal = sent_outside; state = r } ≡ fresh_in r k
unfolding fresh_in fresh_of
refused r k e = rw e refl

made : (r : Receiver) (k : ℕ) → outside 1 sent_most k ≡ false → record { refusal = 0; state = made_for k } ≡ fresh_in r k
unfolding fresh_in fresh_of
made r k e = rw e refl

pub returns-then-outside : goal.returns-then-outside
returns-then-outside c = rw (c.refused_outcome.ensures, c.number.ensures) (refused _ _ (sym c.outside.ensures ∙ c.if-outside.true))

pub returns : goal.returns
unfolding made_for
returns c =
    rw (c.refused_outcome-2.ensures, c.fresh_stream.ensures)
    (made _ _ (sym c.outside.ensures ∙ c.if-outside.false))
