-- The text that the program prints for an input, and the buffer that holds it. Assumes nothing.
use Rattle.std.specs.Prelude.{◌≡◌, cond, List, ℕ, leb, length}
use Rattle.octets.specs.Memory.{put}
use Rattle.listing.specs.Lines.{refused_line}
use Rattle.metrics.specs.Report.{sample_text}
use Rattle.sample.specs.Decode.{Decoded, refused, accepted}

-- the text of a decoded input: the report of its sample, or one line if the input is refused
unfoldable pub report_text : Decoded → List ℕ
report_text (refused r) = refused_line r
report_text (accepted s) = sample_text (accepted s)

-- a text written to the start of a buffer. r is the number of octets written: all if the text fits, else 0
pub record PutWhole (text old : List ℕ) (r : ℕ) (new : List ℕ) : Type 0 where
  pub answer : r ≡ cond (leb (length text) (length old)) (length text) 0
  pub memory : new ≡ put 0 text old
