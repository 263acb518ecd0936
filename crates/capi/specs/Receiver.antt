-- The caller's receiver made fresh. Assumes nothing.
use Rattle.std.specs.Prelude.{ℕ, cond}
use Rattle.rfc4737.specs.Refusals.{outside}
use Rattle.rfc4737.specs.Judge.{sent_most}
use Rattle.receiver.specs.declared.Receiver.{Receiver}
use Rattle.receiver.specs.declared.FreshAnswer.{FreshAnswer}
use Rattle.receiver.specs.Step.{fresh_of}

-- the refusal and the state of a fresh receiver for K; if K is refused, the receiver stays unchanged
unfoldable pub fresh_in : Receiver → ℕ → FreshAnswer
fresh_in r k = record { refusal = (fresh_of k).refusal; state = cond (outside 1 sent_most k) r (fresh_of k).state }
