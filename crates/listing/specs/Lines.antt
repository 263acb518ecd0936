-- The lines of the report and the listing of a sample, as ASCII octets. Assumes nothing.
use Rattle.std.specs.Prelude.{ℕ, ◌+◌, cond, List, [], ◌∷◌, ◌++◌, ◌≡◌, ltb, length}
use Rattle.octets.specs.Text.{line_feed}
use Rattle.octets.specs.Memory.{put}
use Rattle.decimal.specs.Decimal.{decimal_of}
use Rattle.rfc4737.specs.declared.Arrival.{Arrival}
use Rattle.rfc4737.specs.declared.Answer.{Answer}
use Rattle.rfc4737.specs.declared.Answer.TheVariants.{Duplicate, InOrder, Reordered}
use Rattle.rfc4737.specs.declared.LateTime.{LateTime}
use Rattle.rfc4737.specs.declared.LateTime.TheVariants.{After, Before}
use Rattle.rfc4737.specs.declared.Counts.{Counts}
use Rattle.rfc4737.specs.Numbering.{amount_of}
use Rattle.listing.specs.Words.{space, minus, sent_word, arrivals_word, in_word, late_word, copy_word, end_word, refused_word}

-- ---- fields and lines

-- a field that is a number
abbrev pub number : ℕ → List ℕ
number n = decimal_of n

-- the sign of a late time: a minus for before, unless the amount is 0
abbrev pub sign : LateTime → List ℕ
sign (After t) = []
sign (Before t) = cond (ltb 0 t) (minus ∷ []) []

-- a field that is a late time
unfoldable pub late_time : LateTime → List ℕ
late_time t = sign t ++ decimal_of (amount_of t)

-- fields with one space between them
abbrev pub joined_by_spaces : List (List ℕ) → List ℕ
joined_by_spaces [] = []
joined_by_spaces (f ∷ []) = f
joined_by_spaces (f ∷ (g ∷ fs)) = f ++ (space ∷ joined_by_spaces (g ∷ fs))

-- a line: fields with one space between them, and a line feed
abbrev pub line : List (List ℕ) → List ℕ
line fs = joined_by_spaces fs ++ (line_feed ∷ [])

-- ---- the lines

-- the first line: K and the number of arrivals
unfoldable pub header_line : ℕ → ℕ → List ℕ
header_line k a = line (sent_word ∷ number k ∷ arrivals_word ∷ number a ∷ [])

-- the fields of an answer: `copy` and the record of the first copy; or `in`, position, jump size; or `late`, position, extent, late time,
-- byte offset, largest n
abbrev pub answer_fields : Answer → List (List ℕ)
answer_fields (Duplicate f) = copy_word ∷ number f.first ∷ []
answer_fields (InOrder f) = in_word ∷ number f.position ∷ number f.jump ∷ []
answer_fields (Reordered f) =
    late_word ∷ number f.position ∷ number f.extent ∷ late_time f.late ∷ number f.offset ∷ number f.largest ∷ []

-- a record's line: the record, its number and its answer
unfoldable pub record_line : ℕ → ℕ → Answer → List ℕ
record_line r n a = line (number r ∷ number n ∷ answer_fields a)

-- the last line: L, reordered, duplicates, closed runs, sum of squares, open run
unfoldable pub end_line : Counts → List ℕ
end_line c =
    line
    (end_word ∷ number c.arrived ∷ number c.reordered ∷ number c.duplicates
    ∷ number c.runs.closed ∷ number c.runs.squares ∷ number c.runs.current ∷ [])

-- the one line of a refused input
unfoldable pub refused_line : ℕ → List ℕ
refused_line n = line (refused_word ∷ number n ∷ [])

-- `new` is `old` with the line `text` at offset `at`, if there is room for all of it, else `old`. In any case r is the length of the line
abbrev pub LinePut : (at : ℕ) (text old : List ℕ) (r : ℕ) (new : List ℕ) → Type 0
LinePut at text old r new = (r ≡ length text) × (new ≡ put at text old)

-- ---- the listing

-- the lines of the records of arrivals l with the answers m; the first record is r
unfoldable pub record_lines_from : ℕ → List Arrival → List Answer → List ℕ
record_lines_from r [] m = []
record_lines_from r (a ∷ l) [] = []
record_lines_from r (a ∷ l) (b ∷ m) = record_line r a.number b ++ record_lines_from (r + 1) l m

-- the lines of all records; the first is 1
unfoldable pub record_lines : List Arrival → List Answer → List ℕ
record_lines l m = record_lines_from 1 l m

-- the listing: the first line, the lines of the records in order, and the last line
unfoldable pub listing_of : ℕ → List Arrival → List Answer → Counts → List ℕ
listing_of k l m c = header_line k (length l) ++ (record_lines l m ++ end_line c)
