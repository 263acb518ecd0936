-- The figures of a whole sample that its summary leaves out, as ASCII octets: the tally of extents, the numbers of n-reordered packets for
-- n = 1 to 10, the gaps and the runs. Assumes nothing.
use Rattle.std.specs.Prelude.{ℕ, zero, suc, cond, List, [], ◌∷◌, ◌++◌, eqb, length, get_or, None, Some}
use Rattle.octets.specs.Text.{ascii}
use Rattle.decimal.specs.Decimal.{decimal_of}
use Rattle.rfc4737.specs.declared.Answer.{Answer}
use Rattle.rfc4737.specs.Runs.{runs}
use Rattle.rfc4737.specs.Tally.{tally}
use Rattle.rfc4737.specs.Gaps.{Gap, gaps}
use Rattle.rfc4737.specs.Ratios.{n_reordered}
use Rattle.sample.specs.declared.WriteAnswer.{WriteAnswer}
use Rattle.sample.specs.Output.{Output}
use Rattle.sample.specs.Decode.{Decoded, decoded_refusal}
use Rattle.metrics.specs.Sample.{sample_arrivals, answers_of}
use Rattle.metrics.specs.Figures.{at_record}
use Rattle.summary.specs.declared.all.Kind.{Kind}
use Rattle.writing.specs.Numbers.{between}
use Rattle.writing.specs.Parts.{joined}
use Rattle.summary.specs.Text.{summary_text}

-- ---- lines

-- a line with two numbers
unfoldable pub pair_line : ℕ → ℕ → List ℕ
pair_line a b = joined (ascii "    " ∷ decimal_of a ∷ ascii ": " ∷ decimal_of b ∷ ascii "\n" ∷ [])

-- an extent and the number of packets with it; no line if there is none
unfoldable pub extent_line : (extent packets : ℕ) → List ℕ
extent_line extent packets = cond (eqb packets 0) [] (pair_line extent packets)

-- a record and its gap; no line if it has none
unfoldable pub gap_line : ℕ → Gap → List ℕ
gap_line n None = []
gap_line n (Some gap) = pair_line n gap

-- the line for a number, which is an extent, an n or a record
unfoldable pub section_line : Kind → List Answer → ℕ → List ℕ
section_line Kind.Extent l e = extent_line e (get_or (tally l) e 0)
section_line Kind.Degree l n = pair_line n (n_reordered n l)
section_line Kind.Gap l n = gap_line n (at_record None (gaps l) n)

-- the lines for 1 to n
unfoldable pub lines_to : Kind → List Answer → ℕ → List ℕ
lines_to kind l zero = []
lines_to kind l (suc n) = lines_to kind l n ++ section_line kind l (suc n)

-- a section: its head, and the lines for 1 to n
unfoldable pub section : List ℕ → Kind → List Answer → ℕ → List ℕ
section head kind l n = joined (head ∷ lines_to kind l n ∷ [])

-- the number of packets with an extent over 100, which have no lines of their own
unfoldable pub over_line : ℕ → List ℕ
over_line n = between (ascii "    over 100: ") n (ascii "\n")

-- the runs
unfoldable pub runs_line : (closed squares current : ℕ) → List ℕ
runs_line closed squares current =
    joined
    (between (ascii "\nRuns in order: ") closed (ascii " ended, the sum of their squares ")
    ∷ between [] squares (ascii ", packets in the open one ")
    ∷ between [] current (ascii "\n")
    ∷ [])

-- the tally of extents, and the numbers of n-reordered packets
unfoldable pub count_lines : List Answer → List ℕ
count_lines l =
    joined
    (section (ascii "\nExtents, and how many packets have each:\n") Kind.Extent l 100
    ∷ over_line (get_or (tally l) 0 0)
    ∷ section (ascii "\nn, and how many packets are n-reordered:\n") Kind.Degree l 10
    ∷ [])

-- ---- the figures

-- the other figures of the answers, of which there are `records`
unfoldable pub more_text : List Answer → ℕ → List ℕ
more_text l records =
    joined
    (count_lines l
    ∷ section (ascii "\nRecords that have a gap, and the gap in positions:\n") Kind.Gap l records
    ∷ runs_line (runs l).closed (runs l).squares (runs l).current
    ∷ [])

-- the summary, and the other figures
unfoldable pub all_text : Decoded → List ℕ
all_text d = summary_text d ++ more_text (answers_of d) (length (sample_arrivals d))

-- room for any such text, in octets: a line with two numbers has at most 47
abbrev pub all_octets : ℕ
all_octets = 200704

-- the call's answer, and the caller's buffer after it, which begins with the text
abbrev pub AllTo : Decoded → List ℕ → WriteAnswer → List ℕ → Type 0
AllTo d old answer new = Output (decoded_refusal d) (all_text d) old answer new
