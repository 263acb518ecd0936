-- The text log of a sample's arrivals, in the caller's buffer. Assumes nothing.
use Rattle.std.specs.Prelude.{ℕ, List}
use Rattle.sample.specs.Output.{Output}
use Rattle.sample.specs.Decode.{Decoded, sample_of, decoded_refusal}
use Rattle.sample.specs.declared.WriteAnswer.{WriteAnswer}
use Rattle.textlog.specs.Form.{log_of}

-- the log of a decoded file's arrivals
abbrev pub sample_log : Decoded → List ℕ
sample_log d = log_of (sample_of d).arrivals

-- the answer, and the caller's buffer after it, which begins with the log
abbrev pub LoggedTo : Decoded → List ℕ → WriteAnswer → List ℕ → Type 0
LoggedTo d out answer out' = Output (decoded_refusal d) (sample_log d) out answer out'
