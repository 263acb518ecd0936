-- The numbers returned instead of an answer, each with its case, and the rule that the first that applies is returned.
-- Assumes nothing.
use Rattle.std.specs.Prelude.{ℕ, zero, suc, Bool, cond, not, ◌&&◌, List, [], ◌∷◌, leb}

-- 1: the file ends before a count or a section does
abbrev pub ends_early : ℕ
ends_early = 1

-- 2: octets follow the last section
abbrev pub octets_follow : ℕ
octets_follow = 2

-- 3: label over 64 octets
abbrev pub long_label : ℕ
long_label = 3

-- 4: K is 0 or over 4,096
abbrev pub sent_outside : ℕ
sent_outside = 4

-- 5: over 4,096 arrivals
abbrev pub many_arrivals : ℕ
many_arrivals = 5

-- 6: sequence number outside 1 to K; or a short number that is over its width, or whose full number is outside 1 to K
abbrev pub number_outside : ℕ
number_outside = 6

-- 7: arrival time over 1,000 below the greatest earlier time
abbrev pub time_back : ℕ
time_back = 7

-- 8: lent output too short
abbrev pub output_short : ℕ
output_short = 8

-- 9: record outside 1 to A, n outside 1 to 100, a share's part outside 1 to its whole, or no such measure, refusal or outcome
abbrev pub asked_outside : ℕ
asked_outside = 9

-- 10: state of a receiver or of a meter unfit, or a reordered packet with no greater kept jump
abbrev pub state_unfit : ℕ
state_unfit = 10

-- 11: receiver has accepted 4,096 arrivals
abbrev pub state_full : ℕ
state_full = 11

-- 12: lists of arrivals that differ in length: those of numbers and of times, or any two of the lists of fragments
abbrev pub lists_differ : ℕ
lists_differ = 12

-- 13: a label octet outside hexadecimal 20 to 7E
abbrev pub octet_outside : ℕ
octet_outside = 13

-- 14: a line not of the form, or a value over the field's range
abbrev pub line_malformed : ℕ
line_malformed = 14

-- 15: a length that is no multiple of 25
abbrev pub record_cut : ℕ
record_cut = 15

-- 16: a stream other than 1 or 2
abbrev pub no_stream : ℕ
no_stream = 16

-- 17: a fragment of length 0, one with more to come and a length no multiple of 8, or one whose end is over 65,535
abbrev pub fragment_unfit : ℕ
fragment_unfit = 17

-- 18: a written time whose seconds don't fit 32 bits
abbrev pub seconds_over : ℕ
seconds_over = 18

-- whether n lies in `low` to `high`
abbrev pub within : ℕ → ℕ → ℕ → Bool
within low high n = leb low n && leb n high

-- whether n lies outside `low` to `high`
unfoldable pub outside : ℕ → ℕ → ℕ → Bool
outside low high n = not (within low high n)

-- `refusal` if it applies, else 0, which is no refusal
abbrev pub refusal_if : Bool → ℕ → ℕ
refusal_if applies refusal = cond applies refusal 0

-- the first refusal of a list that applies; one that does not apply is 0 there. 0 if none applies
abbrev pub first_refusal : List ℕ → ℕ
first_refusal [] = 0
first_refusal (zero ∷ rs) = first_refusal rs
first_refusal (suc r ∷ rs) = suc r
