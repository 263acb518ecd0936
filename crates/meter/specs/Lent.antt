-- The meter's calls over a meter that is lent. Assumes nothing.
use Rattle.std.specs.Prelude.{ℕ, ◌≡◌}
use Rattle.receiver.specs.declared.Outcome.{Outcome}
use Rattle.receiver.specs.Outcomes.{refused_outcome}
use Rattle.meter.specs.declared.Meter.{Meter}
use Rattle.meter.specs.Step.{meter_step, meter_start}

-- what a step in place returns and leaves: the outcome is the step's, the meter at exit is the step's state, and with a refusal it is
-- as it was
abbrev pub AsMeterStep : Meter → ℕ → ℕ → ℕ → Outcome → Meter → Type 0
AsMeterStep m n number time outcome after =
    (outcome ≡ (meter_step m n number time).outcome)
    × (after ≡ (meter_step m n number time).state)
    × ((outcome.refusal ≡ 0 → ⊥) → after ≡ m)

-- the same of a fresh start: the outcome has the start's refusal, 0 for none, and notes nothing
abbrev pub AsMeterStart : Meter → ℕ → ℕ → Outcome → Meter → Type 0
AsMeterStart m n k outcome after =
    (outcome ≡ refused_outcome (meter_start m n k).refusal)
    × (after ≡ (meter_start m n k).state)
    × ((outcome.refusal ≡ 0 → ⊥) → after ≡ m)
