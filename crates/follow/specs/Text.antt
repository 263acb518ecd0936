-- The text of a line, in ASCII octets: the arrival, and the outcome of the receiver's step; and the text of the counts. Times are in
-- microseconds. Assumes nothing.
use Rattle.std.specs.Prelude.{ℕ, ◌+◌, ◌-◌, cond, List, [], ◌∷◌, ◌++◌, eqb}
use Rattle.octets.specs.Text.{ascii}
use Rattle.listing.specs.Lines.{late_time}
use Rattle.writing.specs.Numbers.{between}
use Rattle.writing.specs.Parts.{joined}
use Rattle.refusals.specs.Words.{words_of}
use Rattle.receiver.specs.declared.Lateness.{Lateness}
use Rattle.receiver.specs.declared.Outcome.{Outcome}
use Rattle.receiver.specs.declared.ReceiverAnswer.{ReceiverAnswer}
use Rattle.receiver.specs.declared.Stream.{Stream}
use Rattle.receiver.specs.declared.ReceiverAnswer.TheVariants.{Duplicate, InOrder, Exact, Beyond}
use Rattle.textlog.specs.declared.LogLine.{LogLine}

-- the arrival: sequence number and time; nothing if the line is malformed
unfoldable pub arrival_text : LogLine → List ℕ
arrival_text l = cond (eqb l.refusal 0) (joined (between [] l.number (ascii " at ") ∷ between [] l.time (ascii " us: ") ∷ [])) []

-- in order, with the jump size
unfoldable pub in_order_text : ℕ → List ℕ
in_order_text jump = between (ascii "in order, jump ") jump (ascii "\n")

-- an extent after the words before it: 1 packet, or n packets
unfoldable pub extent_text : List ℕ → ℕ → List ℕ
extent_text words n = between words n (cond (eqb n 1) (ascii " packet, ") (ascii " packets, "))

-- reordered, with exact extent and late time
unfoldable pub exact_text : Lateness → List ℕ
exact_text l = joined (extent_text (ascii "late by ") l.extent ∷ late_time l.late ∷ ascii " us\n" ∷ [])

-- reordered beyond the window: the true extent is greater than the extent given; nothing is claimed about the late time
unfoldable pub beyond_text : Lateness → List ℕ
beyond_text l = joined (extent_text (ascii "late by more than ") l.extent ∷ ascii "beyond the window\n" ∷ [])

-- what is noted of an arrival
unfoldable pub noted_text : ReceiverAnswer → List ℕ
noted_text Duplicate = ascii "copy\n"
noted_text (InOrder jump) = in_order_text jump
noted_text (Exact l) = exact_text l
noted_text (Beyond l) = beyond_text l

-- a refusal, with its words
unfoldable pub refusal_text : ℕ → List ℕ
refusal_text refusal = joined (between (ascii "refused ") refusal (ascii ": ") ∷ words_of refusal ∷ ascii "\n" ∷ [])

-- the outcome of the step
unfoldable pub outcome_text : Outcome → List ℕ
outcome_text o = cond (eqb o.refusal 0) (noted_text o.noted) (refusal_text o.refusal)

-- the text of a line: its arrival, and the outcome
unfoldable pub line_text : LogLine → Outcome → List ℕ
line_text l o = arrival_text l ++ outcome_text o

-- the arrivals accepted: first arrivals, in order or reordered, and copies
unfoldable pub accepted_text : (arrived inorder copies : ℕ) → List ℕ
accepted_text arrived inorder copies =
    joined
    (between (ascii "accepted ") (arrived + copies) (ascii ", in order ")
    ∷ between [] inorder (ascii ", reordered ")
    ∷ between [] (arrived - inorder) (ascii ", copies ")
    ∷ between [] copies (ascii ", closed runs ")
    ∷ [])

-- the runs that a reordered packet has closed, and the packets in the open run
unfoldable pub runs_text : (closed current : ℕ) → List ℕ
runs_text closed current = joined (between [] closed (ascii ", open run ") ∷ between [] current (ascii "\n") ∷ [])

-- the counts of a stream
unfoldable pub counts_text : Stream → List ℕ
counts_text s = accepted_text s.arrived s.inorder s.duplicates ++ runs_text s.runs.closed s.runs.current

-- room for the text of any line, and for the counts, in octets
abbrev pub line_octets : ℕ
line_octets = 256
