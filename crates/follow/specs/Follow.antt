-- A line of a log: the receiver's step by it, and the call's answer. Assumes nothing.
use Rattle.std.specs.Prelude.{ℕ, cond, List, ◌≡◌, ltb, eqb, length}
use Rattle.octets.specs.Memory.{put}
use Rattle.rfc4737.specs.Refusals.{output_short}
use Rattle.receiver.specs.declared.Receiver.{Receiver}
use Rattle.receiver.specs.declared.StepAnswer.{StepAnswer}
use Rattle.receiver.specs.Outcomes.{refused_outcome}
use Rattle.receiver.specs.Step.{step_of}
use Rattle.textlog.specs.declared.LogLine.{LogLine}
use Rattle.follow.specs.Text.{line_text}
use Rattle.follow.specs.declared.FollowAnswer.{FollowAnswer}

-- the receiver's step by the arrival of a line; a malformed line is refused and leaves the receiver unchanged
unfoldable pub followed : Receiver → LogLine → StepAnswer
followed r l =
    cond (eqb l.refusal 0) (step_of r l.number l.time) (record { outcome = refused_outcome l.refusal; state = r })

-- the text of a line for this receiver
unfoldable pub followed_text : Receiver → LogLine → List ℕ
followed_text r l = line_text l (followed r l).outcome

-- the answer with a buffer of `room` octets; refused with 8 if the text is longer
unfoldable pub follow_answer : Receiver → LogLine → (room : ℕ) → FollowAnswer
follow_answer r l room =
    cond (ltb room (length (followed_text r l))) (record { refusal = output_short; length = 0; state = r })
    (record { refusal = (followed r l).outcome.refusal; length = length (followed_text r l); state = (followed r l).state })

-- the call's answer, and the caller's buffer after it, which begins with the text if it has room
pub record FollowedTo (r : Receiver) (l : LogLine) (out : List ℕ) (answer : FollowAnswer) (out' : List ℕ) : Type 0 where
  pub answered : answer ≡ follow_answer r l (length out)
  pub filled : out' ≡ put 0 (followed_text r l) out
