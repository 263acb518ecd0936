-- Two claims about the verdict. Assumes nothing.
use Rattle.std.specs.Prelude.{ℕ, ◌<◌, List, ◌≡◌, take}
use Rattle.listing.specs.Room.{listing_octets}
use Rattle.sample.specs.Decode.{Decoded, decoded_refusal}
use Rattle.metrics.specs.Report.{sample_text}
use Rattle.checker.specs.declared.Verdict.{Verdict}
use Rattle.checker.specs.Verdict.{sample_verdict}

-- the verdict is `Agrees` exactly for the report of the sample
pub record AgreesExactly (d : Decoded) : Type 0 where
  -- if the verdict is `Agrees`, the sample is not refused, and the listing is its report
  pub only : (listing : List ℕ) → (sample_verdict d listing).verdict ≡ Verdict.Agrees → (decoded_refusal d ≡ 0) × (listing ≡ sample_text d)
  -- the verdict on the report is `Agrees`, unless the sample is refused
  pub always : decoded_refusal d ≡ 0 → (sample_verdict d (sample_text d)).verdict ≡ Verdict.Agrees

-- the first n octets of a listing decide, if n is greater than the length of any report
pub record StartDecides (d : Decoded) : Type 0 where
  pub start : (listing : List ℕ) (n : ℕ) → listing_octets < n → sample_verdict d (take n listing) ≡ sample_verdict d listing
