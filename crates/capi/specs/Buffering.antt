-- Waiting time and buffer for C, which names a measure by its number. Assumes nothing.
use Rattle.std.specs.Prelude.{ℕ, zero, suc, cond, List, [], ◌∷◌, get_or, drop}
use Rattle.rfc4737.specs.declared.Measure.{Measure}
use Rattle.rfc4737.specs.Refusals.{outside, first_refusal, asked_outside}
use Rattle.sample.specs.Decode.{Decoded, refused, decoded_refusal}
use Rattle.metrics.specs.declared.SampleNeeds.{SampleNeeds}
use Rattle.metrics.specs.declared.SampleSteps.{SampleSteps}

-- the measure with a number: 0 packets, 1 octets, 2 time. A number above 2 is refused (`with_measure`), so its value here does not matter
unfoldable pub measure_of : ℕ → Measure
measure_of zero = Measure.Packets
measure_of (suc zero) = Measure.Octets
measure_of (suc (suc n)) = Measure.Time

-- the decoded file for a call with measure n: refused if n is no measure, with the file's own refusal, else with 9
unfoldable pub with_measure : ℕ → Decoded → Decoded
with_measure n d = cond (outside 0 2 n) (refused (first_refusal (decoded_refusal d ∷ asked_outside ∷ []))) d

-- the greatest needs: packets, octets and time
abbrev pub need_figures : SampleNeeds → List ℕ
need_figures needs = needs.packets ∷ needs.octets ∷ needs.time ∷ []

-- the answer for several sizes, from its refusal and its figures: L, the greatest need, and the count for each size
abbrev pub steps_told : (refusal : ℕ) (figures : List ℕ) → SampleSteps
steps_told refusal figures =
    record { refusal = refusal; arrived = get_or figures 0 0; greatest = get_or figures 1 0; counts = drop 2 figures }
