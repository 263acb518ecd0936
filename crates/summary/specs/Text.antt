-- The summary of a sample, as ASCII octets. Assumes nothing.
use Rattle.std.specs.Prelude.{ℕ, ◌+◌, ◌-◌, ◌*◌, ◌/◌, ◌%◌, Bool, cond, List, [], ◌∷◌, ◌++◌, eqb, length, replicate}
use Rattle.octets.specs.Text.{ascii}
use Rattle.decimal.specs.Decimal.{decimal_of}
use Rattle.writing.specs.Numbers.{between}
use Rattle.writing.specs.Parts.{joined}
use Rattle.rfc4737.specs.declared.Answer.{Answer}
use Rattle.listing.specs.Words.{space}
use Rattle.sample.specs.declared.WriteAnswer.{WriteAnswer}
use Rattle.sample.specs.Output.{Output}
use Rattle.sample.specs.Decode.{Decoded, decoded_refusal}
use Rattle.metrics.specs.Sample.{answers_of}
use Rattle.summary.specs.declared.figures.Figures.{Figures}
use Rattle.summary.specs.declared.figures.Sizes.{Sizes}
use Rattle.summary.specs.Figures.{figures_of, sizes_for}

-- ---- numbers

-- a number in a column: spaces before it fill the width
unfoldable pub column : ℕ → ℕ → List ℕ
column width n = replicate (width - length (decimal_of n)) space ++ decimal_of n

-- a time, given in microseconds, in milliseconds with three decimals, in a column; a space stands before it, whatever its length
unfoldable pub milliseconds : ℕ → List ℕ
milliseconds t =
    joined
    (ascii " "
    ∷ column 8 (t / 1000)
    ∷ ascii "."
    ∷ decimal_of (t / 100 % 10)
    ∷ decimal_of (t / 10 % 10)
    ∷ decimal_of (t % 10)
    ∷ ascii " ms"
    ∷ [])

-- `part` of `whole` in tenths of a percent, rounded to the nearest; half a tenth is rounded up
abbrev pub tenths : ℕ → ℕ → ℕ
tenths part whole = (2000 * part + whole) / (2 * whole)

-- `part` of `whole` in percent with one decimal; `none` if `whole` is 0
unfoldable pub percent : (none : List ℕ) → ℕ → ℕ → List ℕ
percent none part whole =
    cond (eqb whole 0) none (joined (decimal_of (tenths part whole / 10) ∷ ascii "." ∷ decimal_of (tenths part whole % 10) ∷ []))

-- `part`, `whole` and `part` of `whole` in percent: `name` stands before `part`, `of` before `whole`, `share` before the percent, and
-- `after` at the end
unfoldable pub ratio : (name of share none after : List ℕ) → (part whole : ℕ) → List ℕ
ratio name of share none after part whole =
    joined (between name part of ∷ between [] whole share ∷ percent none part whole ∷ after ∷ [])

-- ---- lines

-- K, the packets that arrived, and the copies
unfoldable pub counts_line : (sent arrived copies : ℕ) → List ℕ
counts_line sent arrived copies =
    joined
    (between [] sent (ascii " packets sent, ")
    ∷ between [] arrived (ascii " arrived, ")
    ∷ between [] copies (ascii " copies besides\n")
    ∷ [])

-- the packets of one kind among those that arrived, and their share
unfoldable pub share_line : List ℕ → ℕ → ℕ → List ℕ
share_line name part whole = ratio name (ascii " of ") (ascii ", ") (ascii "-") (ascii " %\n") part whole

-- the least sizes for a share: waiting time, packets and octets
unfoldable pub sizes_line : List ℕ → Sizes → List ℕ
sizes_line share s =
    joined (share ∷ milliseconds s.time ∷ column 16 s.packets ∷ column 15 s.octets ∷ ascii "\n" ∷ [])

-- the rows of the table of the least sizes: for 50, 90, 95, 99 and 100 percent of the packets that arrived
unfoldable pub row_lines : List Answer → List ℕ
row_lines l =
    joined
    (sizes_line (ascii "     50 %") (sizes_for l 50)
    ∷ sizes_line (ascii "     90 %") (sizes_for l 90)
    ∷ sizes_line (ascii "     95 %") (sizes_for l 95)
    ∷ sizes_line (ascii "     99 %") (sizes_for l 99)
    ∷ sizes_line (ascii "      all") (sizes_for l 100)
    ∷ [])

-- the table
unfoldable pub needs_lines : List Answer → List ℕ
needs_lines l =
    joined
    (ascii "\nA receiver that puts the packets back in order needs, for this share of those that arrived:\n\n    share    waiting time    packets held    octets held\n"
    ∷ row_lines l
    ∷ ascii "\nPackets held is an extent, which can be more than a receiver has to hold. Packets that never arrived are not counted.\n"
    ∷ [])

-- a line, if b
unfoldable pub line_if : Bool → List ℕ → List ℕ
line_if b line = cond b line []

-- what limits the sizes: packets and octets held are exact only if no packet is lost, waiting times only if the clock does not step back
unfoldable pub limit_lines : (lost back : Bool) → List ℕ
limit_lines lost back =
    joined
    (line_if lost (ascii "Packets were lost in this sample; packets and octets held are told for samples without loss, and a receiver can hold more.\n")
    ∷ line_if back (ascii "The clock steps back in this sample; the waiting times hold only for clocks that do not.\n")
    ∷ [])

-- the reordered ratio, and the degrees of n-reordering for n = 1 and 3
unfoldable pub ratio_lines : (reordered reordered1 reordered3 arrived : ℕ) → List ℕ
ratio_lines reordered reordered1 reordered3 arrived =
    joined
    (share_line (ascii "\nReordered (late): ") reordered arrived
    ∷ share_line (ascii "1-reordered: ") reordered1 arrived
    ∷ share_line (ascii "3-reordered: ") reordered3 arrived
    ∷ [])

-- the total of disorder
unfoldable pub disorder_line : ℕ → List ℕ
disorder_line n = between (ascii "Total of disorder: ") n (ascii " pairs in the wrong order\n")

-- ---- the summary

-- the summary of the figures, and of the answers, which determine the least sizes
unfoldable pub text_of : Figures → List Answer → List ℕ
text_of f l =
    joined
    (counts_line f.sent f.arrived f.copies
    ∷ needs_lines l
    ∷ limit_lines f.lost f.back
    ∷ ratio_lines f.reordered f.reordered1 f.reordered3 f.arrived
    ∷ disorder_line f.disorder
    ∷ [])

-- the summary of a decoded file
unfoldable pub summary_text : Decoded → List ℕ
summary_text d = text_of (figures_of d) (answers_of d)

-- room for any summary, in octets
abbrev pub summary_octets : ℕ
summary_octets = 2048

-- the call's answer, and the caller's buffer after it, which begins with the summary
abbrev pub SummaryTo : Decoded → List ℕ → WriteAnswer → List ℕ → Type 0
SummaryTo d old answer new = Output (decoded_refusal d) (summary_text d) old answer new
