-- What a text log decodes to, line by line, and what is refused. The stages of a line need not be read: `ExactLine` (RoundTrip.antt) says
-- that a line decodes exactly if it has the form, and to the form's arrival. Assumes nothing.
use Rattle.std.specs.Prelude.{ℕ, zero, suc, ◌+◌, ◌*◌, Bool, cond, ◌||◌, Option, None, Some, List, [], ◌∷◌, map, ltb, leb, eqb, length, get_or, drop}
use Rattle.octets.specs.Text.{line_feed, lines}
use Rattle.decimal.specs.Reading.{digit_count, leading, leading_value}
use Rattle.rfc4737.specs.declared.Arrival.{Arrival}
use Rattle.rfc4737.specs.Judge.{arrivals_most, judge_one, judge_sent}
use Rattle.rfc4737.specs.Times.{next_reference}
use Rattle.rfc4737.specs.Refusals.{outside, refusal_if, first_refusal, many_arrivals, line_malformed}
use Rattle.textlog.specs.Form.{semicolon, comma, point, thousandths, number_most, time_most}
use Rattle.textlog.specs.declared.LogJudgement.{LogJudgement}
use Rattle.textlog.specs.declared.reading.ReadLine.{ReadLine}

-- ---- reading a line in stages: t is the text that is left, which begins at offset `at` of the log

-- whether an octet is a comma or a point
unfoldable pub is_decimal_mark : ℕ → Bool
is_decimal_mark o = eqb o comma || eqb o point

-- the octet after the digits with which a text begins; 0 if nothing follows them
abbrev pub octet_after : List ℕ → ℕ
octet_after t = get_or t (digit_count t) 0

-- what follows that octet
abbrev pub text_after : List ℕ → List ℕ
text_after t = drop (digit_count t + 1) t

-- a line that was read: its number, its time and the offset after it; a malformed line is `None`
abbrev pub read : (number time end : ℕ) → Option ReadLine
read number time end = Some (record { number = number; time = time; end = end })

-- a line that ends before offset `end`: malformed if its time is over the field's range
unfoldable pub in_range : (number time end : ℕ) → Option ReadLine
in_range number time end = cond (leb time time_most) (read number time end) None

-- the rest of a line whose decimals begin at `at`
unfoldable pub fraction_in : (number whole at : ℕ) (t : List ℕ) → Option ReadLine
fraction_in number whole at t =
    cond (outside 1 3 (digit_count t)) None
    (cond (eqb (octet_after t) line_feed) (in_range number (1000 * whole + thousandths (leading t)) (at + digit_count t + 1))
    None)

-- the rest of a line whose time begins at `at`
unfoldable pub time_in : (number at : ℕ) (t : List ℕ) → Option ReadLine
time_in number at t =
    cond (eqb (digit_count t) 0) None
    (cond (eqb (octet_after t) line_feed) (in_range number (1000 * leading_value t) (at + digit_count t + 1))
    (cond (is_decimal_mark (octet_after t)) (fraction_in number (leading_value t) (at + digit_count t + 1) (text_after t))
    None))

-- the line that begins at `at`: its number, its time, and the offset after it
unfoldable pub line_in : (at : ℕ) (t : List ℕ) → Option ReadLine
line_in at t =
    cond (eqb (digit_count t) 0) None
    (cond (ltb number_most (leading_value t)) None
    (cond (eqb (octet_after t) semicolon) (time_in (leading_value t) (at + digit_count t + 1) (text_after t))
    None))

-- what a line decodes to: an arrival, or nothing if it is malformed
pub data DecodedLine : Type 0 where
  malformed : DecodedLine
  arrived : Arrival → DecodedLine

-- the arrival that was read, if the line of `octets` octets ends with it
abbrev pub read_whole : (octets : ℕ) → Option ReadLine → DecodedLine
read_whole octets (Some l) = cond (eqb l.end octets) (arrived (record { number = l.number; time = l.time })) malformed
read_whole octets None = malformed

-- what a line by itself decodes to
unfoldable pub decode_line : List ℕ → DecodedLine
decode_line l = read_whole (length l) (line_in 0 l)

-- ---- the arrivals

-- the arrival of a line; a malformed line, which is refused, has an arrival of zeros
abbrev pub arrival_or0 : DecodedLine → Arrival
arrival_or0 malformed = record { number = 0; time = 0 }
arrival_or0 (arrived a) = a

-- what the lines of a log decode to
abbrev pub decoded_lines : List ℕ → List DecodedLine
decoded_lines log = map decode_line (lines log)

-- the arrivals of decoded lines
unfoldable pub arrivals_of_lines : List DecodedLine → List Arrival
arrivals_of_lines ds = map arrival_or0 ds

-- the arrivals of a log
abbrev pub log_arrivals : List ℕ → List Arrival
log_arrivals log = arrivals_of_lines (decoded_lines log)

-- ---- what is refused

-- the refusal of one line, after `count` lines: 14, 5 if it is line 4,097, 6, 7
abbrev pub judge_line : (k count reference : ℕ) → DecodedLine → ℕ
judge_line k count reference malformed = line_malformed
judge_line k count reference (arrived a) =
    first_refusal (refusal_if (leb arrivals_most count) many_arrivals ∷ judge_one k reference a ∷ [])

-- the judgement `next`, unless a refusal comes before it; `line` is 0 if no line is to blame
abbrev pub unless : (refusal line : ℕ) → (next : LogJudgement) → LogJudgement
unless zero line next = next
unless (suc r) line next = record { refusal = suc r; arrivals = 0; line = line }

-- the judgement of decoded lines in turn, after `count` lines
unfoldable pub judge_lines : (k count reference : ℕ) → List DecodedLine → LogJudgement
judge_lines k count reference [] = record { refusal = 0; arrivals = count; line = 0 }
judge_lines k count reference (d ∷ ds) =
    unless (judge_line k count reference d) (count + 1) (judge_lines k (count + 1) (next_reference reference (arrival_or0 d).time) ds)

-- the judgement of a log's decoded lines: 4, then the lines in turn. It has the refusal, the number of arrivals, and the number of the
-- first refused line, from 1
unfoldable pub judge_decoded : ℕ → List DecodedLine → LogJudgement
judge_decoded k ds = unless (judge_sent k) 0 (judge_lines k 0 0 ds)

-- the judgement of a log
abbrev pub judge_log : ℕ → List ℕ → LogJudgement
judge_log k log = judge_decoded k (decoded_lines log)
