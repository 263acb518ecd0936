-- The result of a pass over the lines of a listing, which writes them to a buffer or compares them with a text. Assumes nothing.
use Rattle.std.specs.Prelude.{Result, Ok, Err, ℕ, ◌+◌, ◌≤◌, ◌≡◌, Bool, true, false, List, [], ◌∷◌, ◌++◌, eqb, ltb, length, drop}
use Rattle.octets.specs.Memory.{splice}
use Rattle.rfc4737.specs.Refusals.{refusal_if, first_refusal, output_short}
use Rattle.rfc4737.specs.Runs.{counts}
use Rattle.listing.specs.Lines.{header_line, record_lines}
use Rattle.listing.specs.Room.{line_most}
use Rattle.sample.specs.declared.Layout.{Layout}
use Rattle.sample.specs.Decode.{Decoded, decoded_refusal}
use Rattle.metrics.specs.Agreement.{common}
use Rattle.metrics.specs.Report.{sample_text}
use Rattle.metrics.specs.Sample.{answers_of}
use Rattle.metrics.specs.Records.{before, answers_to}
use Rattle.metrics.specs.declared.report.listing_pass.Passed.{Passed}

-- the refusal of a listing into `room` octets: the file's own, then 8
abbrev pub listing_refusal : (d : Decoded) (room : ℕ) → ℕ
listing_refusal d room = first_refusal (decoded_refusal d ∷ refusal_if (ltb room (length (sample_text d))) output_short ∷ [])

-- how many octets of some lines agree with a text or are written, and whether all of them do
pub record Part : Type 0 where
  pub octets : ℕ
  pub whole : Bool

-- what a result says: all lines, or the octets up to the first difference
abbrev pub part_of : Result ℕ ℕ → Part
part_of (Ok octets) = record { octets = octets; whole = true }
part_of (Err octets) = record { octets = octets; whole = false }

-- a result for lines from an offset on, with the octets before them
abbrev pub moved : ℕ → Result ℕ ℕ → Result ℕ ℕ
moved at (Ok octets) = Ok (at + octets)
moved at (Err octets) = Err (at + octets)

-- r says how many octets of `lines` agree with the start of `text`, and whether all of them do
pub record Agreed (lines text : List ℕ) (r : Part) : Type 0 where
  pub octets : r.octets ≡ common lines text
  pub whole : r.whole ≡ eqb (common lines text) (length lines)

-- a line can be compared: the buffer has room for it, and the offset `at` is within the text
pub record LineRoom (comparing : Bool) (text : List ℕ) (at : ℕ) (out : List ℕ) : Type 0 where
  pub room : comparing ≡ true → line_most ≤ length out
  pub inside : comparing ≡ true → at ≤ length text

-- the lines were written to `old` at offset `at`, if they fit; or, comparing, they were compared with the text from there on
pub record Taken (comparing : Bool) (lines text : List ℕ) (at : ℕ) (old new : List ℕ) (r : Part) : Type 0 where
  pub listed : comparing ≡ false → (r ≡ record { octets = length lines; whole = true })
      × (at + length lines ≤ length old → new ≡ splice at lines old)
  pub compared : comparing ≡ true → Agreed lines (drop at text) r
  pub places : length new ≡ length old

-- the listing up to record i
abbrev pub lines_to : Decoded → Layout → ℕ → List ℕ
lines_to d layout i = header_line layout.sent layout.arrivals ++ record_lines (before d i) (answers_to d i)

-- the lines up to record i are written or agree; together they have `at` octets
abbrev pub PassedTo : Decoded → Layout → List ℕ → Bool → ℕ → ℕ → List ℕ → List ℕ → Type 0
PassedTo d layout text comparing i at old new = Taken comparing (lines_to d layout i) text 0 old new (record { octets = at; whole = true })

-- the pass went over all records or, comparing, ended at the first line that differs
abbrev pub PassEnded : Decoded → Layout → (text : List ℕ) (comparing : Bool) (old new : List ℕ) → Result Passed ℕ → Type 0
PassEnded d layout text comparing old new (Ok p) =
    PassedTo d layout text comparing layout.arrivals p.octets old new × (p.counts ≡ counts (answers_of d))
PassEnded d layout text comparing old new (Err octets) =
    Taken comparing (sample_text d) text 0 old new (record { octets = octets; whole = false })
