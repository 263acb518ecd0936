-- The step over a receiver that is lent. Assumes nothing.
use Rattle.std.specs.Prelude.{ℕ, ◌≡◌}
use Rattle.receiver.specs.declared.Receiver.{Receiver}
use Rattle.receiver.specs.declared.Outcome.{Outcome}
use Rattle.receiver.specs.Step.{step_of}

-- what a step in place returns and leaves: the outcome is the step's, the receiver at exit is the step's state, and with a refusal it
-- is as it was
abbrev pub AsStep : Receiver → ℕ → ℕ → Outcome → Receiver → Type 0
AsStep r number time outcome after =
    (outcome ≡ (step_of r number time).outcome)
    × (after ≡ (step_of r number time).state)
    × ((outcome.refusal ≡ 0 → ⊥) → after ≡ r)
