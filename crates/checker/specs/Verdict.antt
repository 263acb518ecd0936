-- The verdict on a listing: its lines compared with those of the report. Assumes nothing.
use Rattle.std.specs.Prelude.{ℕ, ◌+◌, cond, List, [], ◌∷◌}
use Rattle.octets.specs.Text.{lines}
use Rattle.sample.specs.Decode.{Decoded, decoded_refusal}
use Rattle.sample.specs.Output.{if_none}
use Rattle.metrics.specs.Report.{sample_text}
use Rattle.metrics.specs.Agreement.{same_text}
use Rattle.checker.specs.declared.Verdict.{Verdict}
use Rattle.checker.specs.declared.SampleVerdict.{SampleVerdict}

-- the first line of `given` that differs from `expected`, is missing or is extra; lines count from n
unfoldable pub verdict_on_lines : (n : ℕ) (expected given : List (List ℕ)) → Verdict
verdict_on_lines n [] [] = Verdict.Agrees
verdict_on_lines n [] (l ∷ ls) = Verdict.WrongLine n
verdict_on_lines n (e ∷ es) [] = Verdict.WrongLine n
verdict_on_lines n (e ∷ es) (l ∷ ls) = cond (same_text e l) (verdict_on_lines (n + 1) es ls) (Verdict.WrongLine n)

-- the verdict on a listing against the expected text
unfoldable pub verdict_on : (expected listing : List ℕ) → Verdict
verdict_on expected listing = verdict_on_lines 1 (lines expected) (lines listing)

-- the checker's answer: the sample's refusal, and the verdict. If the sample is refused, the listing is not read, and the line is 0
unfoldable pub sample_verdict : Decoded → List ℕ → SampleVerdict
sample_verdict d listing =
    record {
      refusal = decoded_refusal d;
      verdict = if_none (decoded_refusal d) (verdict_on (sample_text d) listing) (Verdict.WrongLine 0);
    }
