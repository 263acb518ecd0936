-- What each call returns for a decoded file: a definition of rfc4737 over the answers of its sample. The file's own refusal comes first,
-- then 9. A refused file has the empty sample, so beside a refusal is the figure of no arrivals: zeros, no gap, an undefined ratio.
-- Assumes nothing.
use Rattle.std.specs.Prelude.{ℕ, zero, suc, ◌+◌, ◌^◌, cond, List, [], ◌∷◌, map, length, get_or, None}
use Rattle.rfc4737.specs.declared.Answer.{Answer}
use Rattle.rfc4737.specs.declared.Measure.{Measure}
use Rattle.rfc4737.specs.Refusals.{outside, refusal_if, first_refusal, asked_outside}
use Rattle.rfc4737.specs.Runs.{arrived, counts}
use Rattle.rfc4737.specs.Tally.{tally}
use Rattle.rfc4737.specs.Gaps.{Gap, gaps}
use Rattle.rfc4737.specs.Ratios.{n_reordered, degree, ratios}
use Rattle.rfc4737.specs.Needs.{greatest_need, accommodated}
use Rattle.sample.specs.Decode.{Decoded, decoded_refusal}
use Rattle.metrics.specs.Sample.{sample_arrivals, answers_of}
use Rattle.metrics.specs.declared.RecordAnswer.{RecordAnswer}
use Rattle.metrics.specs.declared.RecordGap.{RecordGap}
use Rattle.metrics.specs.declared.SampleCounts.{SampleCounts}
use Rattle.metrics.specs.declared.SampleTally.{SampleTally}
use Rattle.metrics.specs.declared.DegreeCounts.{DegreeCounts}
use Rattle.metrics.specs.declared.SampleDegree.{SampleDegree}
use Rattle.metrics.specs.declared.SampleRatios.{SampleRatios}
use Rattle.metrics.specs.declared.SampleAccommodated.{SampleAccommodated}
use Rattle.metrics.specs.declared.SampleNeeds.{SampleNeeds}
use Rattle.metrics.specs.declared.SampleSteps.{SampleSteps}

-- ---- the record or n asked for

module _ {ℓ} {A : Type ℓ} where
  -- the element of a list for a record, counted from 1; `other` if there is no such record
  unfoldable pub at_record : A → List A → ℕ → A
  at_record other l zero = other
  at_record other l (suc i) = get_or l i other

-- the refusal of a call that asks for a number from low to high: the file's own, then 9
abbrev pub asked_refusal : (d : Decoded) (low high asked : ℕ) → ℕ
asked_refusal d low high asked = first_refusal (decoded_refusal d ∷ refusal_if (outside low high asked) asked_outside ∷ [])

-- the refusal of a call that asks for a record: 1 to A
abbrev pub record_refusal : (d : Decoded) (asked : ℕ) → ℕ
record_refusal d asked = asked_refusal d 1 (length (sample_arrivals d)) asked

-- the greatest n of a degree
abbrev pub degree_most : ℕ
degree_most = 100

-- the answers over which a degree is taken: none if n is outside 1 to 100
abbrev pub degree_answers : (d : Decoded) (n : ℕ) → List Answer
degree_answers d n = cond (outside 1 degree_most n) [] (answers_of d)

-- ---- the calls

-- the answer for a record; with a refusal "in order" with zeros
unfoldable pub record_answer : Decoded → ℕ → RecordAnswer
record_answer d asked =
    record {
      refusal = record_refusal d asked;
      answer = at_record (Answer.InOrder (record { position = 0; jump = 0 })) (answers_of d) asked;
    }

-- the gap of a record; with a refusal none
unfoldable pub record_gap : Decoded → ℕ → RecordGap
record_gap d asked = record { refusal = record_refusal d asked; gap = at_record None (gaps (answers_of d)) asked }

-- the counts of a sample
unfoldable pub sample_counts : Decoded → SampleCounts
sample_counts d = record { refusal = decoded_refusal d; counts = counts (answers_of d) }

-- the extent tally of a sample
unfoldable pub sample_tally : Decoded → SampleTally
sample_tally d = record { refusal = decoded_refusal d; tally = tally (answers_of d) }

-- the two counts of a degree of n-reordering: the n-reordered packets, and L
unfoldable pub degree_counts : Decoded → ℕ → DegreeCounts
degree_counts d n =
    record {
      refusal = asked_refusal d 1 degree_most n;
      reordered = n_reordered n (degree_answers d n);
      arrived = arrived (degree_answers d n);
    }

-- the degree of n-reordering
unfoldable pub sample_degree : Decoded → ℕ → SampleDegree
sample_degree d n = record { refusal = asked_refusal d 1 degree_most n; ratio = degree n (degree_answers d n) }

-- the ratio figures of a sample
unfoldable pub sample_ratios : Decoded → SampleRatios
sample_ratios d = record { refusal = decoded_refusal d; ratios = ratios (answers_of d) }

-- how many first arrivals of a sample a buffer of this size accommodates, and L
unfoldable pub sample_accommodated : Decoded → Measure → ℕ → SampleAccommodated
sample_accommodated d m size =
    record { refusal = decoded_refusal d; accommodated = accommodated m size (answers_of d); arrived = arrived (answers_of d) }

-- the greatest needs of a sample
unfoldable pub sample_needs : Decoded → SampleNeeds
sample_needs d =
    record {
      refusal = decoded_refusal d;
      packets = greatest_need Measure.Packets (answers_of d);
      octets = greatest_need Measure.Octets (answers_of d);
      time = greatest_need Measure.Time (answers_of d);
    }

-- ---- several sizes at once

-- how many buffer sizes are tried in one pass
abbrev pub step_count : ℕ
step_count = 128

-- n sizes, each greater than the one before by a step: low, low + step, low + 2 * step and so on
unfoldable pub sizes_from : (low step n : ℕ) → List ℕ
sizes_from low step zero = []
sizes_from low step (suc n) = low ∷ sizes_from (low + step) step n

-- how many first arrivals of a sample buffers of the sizes low + k * 2^shift accommodate, for each k below 128; L; and the greatest need
unfoldable pub sample_steps : Decoded → Measure → (low shift : ℕ) → SampleSteps
sample_steps d m low shift =
    record {
      refusal = decoded_refusal d;
      arrived = arrived (answers_of d);
      greatest = greatest_need m (answers_of d);
      counts = map (λ (size : ℕ). accommodated m size (answers_of d)) (sizes_from low (2 ^ shift) step_count);
    }
