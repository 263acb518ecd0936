-- What a receiver says of a line of a text log, for C, which passes the outcome of the step as its refusal and its figures; and the counts,
-- passed as numbers. Assumes nothing.
use Rattle.std.specs.Prelude.{ℕ, cond, not, ◌&&◌, List, eqb}
use Rattle.rfc4737.specs.Refusals.{refusal_if, asked_outside}
use Rattle.receiver.specs.declared.Outcome.{Outcome}
use Rattle.receiver.specs.declared.Stream.{Stream}
use Rattle.receiver.specs.Outcomes.{refused_outcome}
use Rattle.textlog.specs.declared.LogLine.{LogLine}
use Rattle.capi.specs.Outcomes.{outcome_told, is_outcome}

-- 9 if the line has an arrival, and the refusal and the figures are those of no outcome
unfoldable pub follow_refusal : LogLine → (refusal : ℕ) (figures : List ℕ) → ℕ
follow_refusal l refusal figures = refusal_if (eqb l.refusal 0 && not (is_outcome refusal figures)) asked_outside

-- the outcome of a line: that of the step, or the line's own refusal if it is malformed
unfoldable pub follow_outcome : LogLine → (refusal : ℕ) (figures : List ℕ) → Outcome
follow_outcome l refusal figures = cond (eqb l.refusal 0) (outcome_told refusal figures) (refused_outcome l.refusal)

-- a stream with these counts; its other numbers, which the text of the counts does not have, are 0
abbrev pub counted_stream : (arrived inorder duplicates closed current : ℕ) → Stream
counted_stream arrived inorder duplicates closed current =
    record {
      sent = 0;
      arrived = arrived;
      duplicates = duplicates;
      inorder = inorder;
      next = 0;
      kept = 0;
      greatest = 0;
      runs = record { closed = closed; squares = 0; current = current };
      dropped = 0;
    }
