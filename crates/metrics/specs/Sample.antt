-- The sample of a decoded file. A refused file has the empty sample. Assumes nothing.
use Rattle.std.specs.Prelude.{ℕ, List}
use Rattle.rfc4737.specs.declared.Arrival.{Arrival}
use Rattle.rfc4737.specs.declared.Answer.{Answer}
use Rattle.rfc4737.specs.Extent.{size_in}
use Rattle.rfc4737.specs.Answer.{answers}
use Rattle.sample.specs.Decode.{Decoded, sample_of}

-- the payload size of each packet
abbrev pub size_of : Decoded → ℕ → ℕ
size_of d = size_in (sample_of d).sizes

-- the arrivals, in order of arrival
abbrev pub sample_arrivals : Decoded → List Arrival
sample_arrivals d = (sample_of d).arrivals

-- the answer for every record
abbrev pub answers_of : Decoded → List Answer
answers_of d = answers (size_of d) (sample_arrivals d)
