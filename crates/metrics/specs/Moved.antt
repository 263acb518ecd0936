-- Moving the clock: adding one amount to all arrival times of an accepted sample, where no time passes the field's range, changes
-- no figure of the report. Assumes nothing.
use Rattle.std.specs.Prelude.{ℕ, ◌^◌, List, ◌≡◌}
use Rattle.octets.specs.Below.{Below}
use Rattle.rfc4737.specs.declared.Measure.{Measure}
use Rattle.rfc4737.specs.Judge.{times_of}
use Rattle.sample.specs.Format.{Sample, file_of}
use Rattle.sample.specs.Decode.{Decoded, decode, accepted, decoded_refusal}
use Rattle.sample.specs.Moved.{moved_sample, MovedAccepted, SampleMovedTwice}
use Rattle.metrics.specs.Figures.{record_answer, record_gap, sample_counts, sample_tally, degree_counts, sample_degree, sample_ratios, sample_accommodated, sample_needs}
use Rattle.metrics.specs.Report.{sample_text}

-- every call returns the same for two decoded files
pub record SameFigures (d e : Decoded) : Type 0 where
  -- `listing`, into any buffer, and `agreement`, with any text: both depend on the refusal and the listing's octets alone
  pub refusal : decoded_refusal d ≡ decoded_refusal e
  pub text : sample_text d ≡ sample_text e
  -- `answer` and `gap`, of any record
  pub answer : (asked : ℕ) → record_answer d asked ≡ record_answer e asked
  pub gap : (asked : ℕ) → record_gap d asked ≡ record_gap e asked
  -- `counts` and `tally`
  pub counts : sample_counts d ≡ sample_counts e
  pub tally : sample_tally d ≡ sample_tally e
  -- `n_reordered` and `degree`, of any n
  pub shares : (n : ℕ) → degree_counts d n ≡ degree_counts e n
  pub degree : (n : ℕ) → sample_degree d n ≡ sample_degree e n
  -- `ratios`
  pub ratios : sample_ratios d ≡ sample_ratios e
  -- `accommodated`, of any buffer, and `greatest_needs`
  pub buffers : (m : Measure) (size : ℕ) → sample_accommodated d m size ≡ sample_accommodated e m size
  pub needs : sample_needs d ≡ sample_needs e

-- the claim, of a file
pub record ClockMoved (file : List ℕ) : Type 0 where
  -- the moved sample is accepted
  pub accepts : MovedAccepted file
  -- every call returns the same for its file as for this one
  pub same : (s : Sample) (c : ℕ) → decode file ≡ accepted s → Below (2 ^ 64) (times_of (moved_sample c s).arrivals)
      → SameFigures (decode (file_of (moved_sample c s))) (decode file)
  -- moving by one amount and then by another is moving by their sum
  pub twice : SampleMovedTwice
