-- How far a text agrees with the listing of a sample. Assumes nothing.
use Rattle.std.specs.Prelude.{ℕ, ◌+◌, Bool, true, false, cond, ◌&&◌, List, [], ◌∷◌, eqb}
use Rattle.sample.specs.Decode.{Decoded, decoded_refusal}
use Rattle.sample.specs.Output.{if_none}
use Rattle.metrics.specs.Report.{sample_text}
use Rattle.metrics.specs.declared.SampleAgreement.{SampleAgreement}

-- how many octets two texts have in common, from their start on
unfoldable pub common : List ℕ → List ℕ → ℕ
common [] t = 0
common (x ∷ e) [] = 0
common (x ∷ e) (y ∷ t) = cond (eqb x y) (common e t + 1) 0

-- whether two texts are the same
unfoldable pub same_text : List ℕ → List ℕ → Bool
same_text [] [] = true
same_text [] (y ∷ t) = false
same_text (x ∷ e) [] = false
same_text (x ∷ e) (y ∷ t) = eqb x y && same_text e t

-- a text compared with the listing of a sample; with a refusal nothing is compared
unfoldable pub sample_agreement : Decoded → List ℕ → SampleAgreement
sample_agreement d text =
    record {
      refusal = decoded_refusal d;
      octets = if_none (decoded_refusal d) (common (sample_text d) text) 0;
      same = if_none (decoded_refusal d) (same_text (sample_text d) text) false;
    }
