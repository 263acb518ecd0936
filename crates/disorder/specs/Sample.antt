-- The total of disorder of a decoded file. Assumes nothing.
use Rattle.std.specs.Prelude.{◌≡◌, ℕ, ◌^◌, List, length, replicate}
use Rattle.octets.specs.Below.{Below}
use Rattle.rfc4737.specs.Arrivals.{firsts}
use Rattle.rfc4737.specs.Judge.{times_of}
use Rattle.sample.specs.Format.{Sample, file_of}
use Rattle.sample.specs.Decode.{Decoded, accepted, decode, sample_of, decoded_refusal}
use Rattle.sample.specs.Moved.{moved_sample}
use Rattle.metrics.specs.Sample.{sample_arrivals, answers_of}
use Rattle.disorder.specs.Disorder.{offset_sum, wrong_pairs}
use Rattle.disorder.specs.declared.SampleDisorder.{SampleDisorder}

-- the total of disorder: the number of pairs of first arrivals that came in the wrong order, whatever the payload sizes
unfoldable pub disorder_of : Decoded → ℕ
disorder_of d = wrong_pairs (firsts (sample_arrivals d))

-- the answer of the call; if the file is refused, the total is 0
unfoldable pub sample_disorder : Decoded → SampleDisorder
sample_disorder d = record { refusal = decoded_refusal d; total = disorder_of d }

-- if every payload size of the sample is 1, the total is the sum of its byte offsets
abbrev pub SumsOffsets : Decoded → Type 0
SumsOffsets d = (sample_of d).sizes ≡ replicate (length (sample_of d).sizes) 1 → offset_sum (answers_of d) ≡ disorder_of d

-- moving the clock of a sample does not change the answer, if no time leaves its range
abbrev pub DisorderMoved : List ℕ → Type 0
DisorderMoved file =
    (s : Sample) (c : ℕ) → decode file ≡ accepted s → Below (2 ^ 64) (times_of (moved_sample c s).arrivals)
    → sample_disorder (decode (file_of (moved_sample c s))) ≡ sample_disorder (decode file)
