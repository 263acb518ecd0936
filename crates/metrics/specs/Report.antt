-- The listing of a decoded file, and what its call leaves in the caller's buffer. Assumes nothing.
use Rattle.std.specs.Prelude.{List, ℕ, length}
use Rattle.rfc4737.specs.Runs.{counts}
use Rattle.listing.specs.Lines.{listing_of}
use Rattle.sample.specs.Output.{Output}
use Rattle.sample.specs.Decode.{Decoded, sample_of, decoded_refusal}
use Rattle.metrics.specs.Sample.{sample_arrivals, answers_of}
use Rattle.sample.specs.declared.WriteAnswer.{WriteAnswer}

-- the listing of a sample: K, its arrivals, their answers and the counts
abbrev pub sample_text : Decoded → List ℕ
sample_text d = listing_of (length (sample_of d).sizes) (sample_arrivals d) (answers_of d) (counts (answers_of d))

-- the call's answer, and the caller's buffer after it, which begins with the listing
abbrev pub ListedTo : Decoded → List ℕ → WriteAnswer → List ℕ → Type 0
ListedTo d old answer new = Output (decoded_refusal d) (sample_text d) old answer new
