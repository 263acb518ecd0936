-- Moving the clock of a sample. Assumes nothing.
use Rattle.std.specs.Prelude.{ℕ, ◌+◌, ◌^◌, List, ◌≡◌}
use Rattle.octets.specs.Below.{Below}
use Rattle.rfc4737.specs.Judge.{times_of}
use Rattle.rfc4737.specs.Moved.{moved}
use Rattle.sample.specs.Format.{Sample, file_of}
use Rattle.sample.specs.Decode.{decode, accepted}

-- a sample with c added to all its arrival times
abbrev pub moved_sample : ℕ → Sample → Sample
moved_sample c s = record { label = s.label; sizes = s.sizes; arrivals = moved c s.arrivals }

-- if a file decodes to a sample, and no moved time passes the field's range, then the moved sample's file decodes to the moved sample
abbrev pub MovedAccepted : List ℕ → Type 0
MovedAccepted file =
    (s : Sample) (c : ℕ) → decode file ≡ accepted s → Below (2 ^ 64) (times_of (moved_sample c s).arrivals)
    → decode (file_of (moved_sample c s)) ≡ accepted (moved_sample c s)

-- moving by one amount and then by another is moving by their sum
abbrev pub SampleMovedTwice : Type 0
SampleMovedTwice = (b c : ℕ) (s : Sample) → moved_sample c (moved_sample b s) ≡ moved_sample (b + c) s
