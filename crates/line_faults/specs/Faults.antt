-- What is wrong with a line of a text log. It does not begin with a digit (but with a byte order mark, say), its number is over the range,
-- or its form breaks later; then the first octet that breaks it names the fault. A line is given with its line feed, if it has one.
-- Assumes nothing.
use Rattle.std.specs.Prelude.{ℕ, ◌+◌, ◌-◌, Bool, cond, ◌&&◌, List, ltb, leb, eqb, length, get_or}
use Rattle.octets.specs.Text.{line_feed}
use Rattle.decimal.specs.Reading.{number_at}
use Rattle.decimal.specs.declared.reading.Number.{Number}
use Rattle.textlog.specs.Form.{semicolon, number_most}
use Rattle.textlog.specs.Decode.{is_decimal_mark}
use Rattle.line_faults.specs.declared.LineFault.{LineFault}
use Rattle.line_faults.specs.declared.LineFault.TheVariants.{ByteOrderMark, EmptyLine, NoDigit, CarriageReturn, NoLineFeed, NumberOver, ManyDecimals, Formed, Other}

-- the octet of a carriage return
abbrev pub carriage_return : ℕ
carriage_return = 13

-- whether a line begins with the byte order mark of UTF-8: the octets EF, BB, BF
unfoldable pub has_byte_order_mark : List ℕ → Bool
has_byte_order_mark l = eqb (get_or l 0 0) 239 && (eqb (get_or l 1 0) 187 && eqb (get_or l 2 0) 191)

-- the fault of a line whose form breaks at `at`; at its end the line feed is missing
unfoldable pub stray_at : List ℕ → ℕ → LineFault
stray_at l at = cond (leb (length l) at) NoLineFeed (cond (eqb (get_or l at 0) carriage_return) CarriageReturn Other)

-- the fault of a line that does not begin with a digit
unfoldable pub start_fault : List ℕ → LineFault
start_fault l =
    cond (has_byte_order_mark l) ByteOrderMark
    (cond (eqb (get_or l 0 0) line_feed) EmptyLine
    (cond (eqb (get_or l 0 0) carriage_return) CarriageReturn NoDigit))

-- the fault of a line whose time ends before `at`: none if a line feed stands there
unfoldable pub end_fault : List ℕ → ℕ → LineFault
end_fault l at = cond (eqb (get_or l at 0) line_feed) Formed (stray_at l at)

-- the offset after the digits that begin at `at`
abbrev pub digits_end : ℕ → List ℕ → ℕ
digits_end at l = (number_at at l).end

-- the fault of a line whose decimals stand from `at` to `end`; one to three are right
unfoldable pub decimals_up_to : List ℕ → (at end : ℕ) → LineFault
decimals_up_to l at end = cond (eqb (end - at) 0) (stray_at l end) (cond (ltb 3 (end - at)) ManyDecimals (end_fault l end))

-- the fault of a line whose decimals begin at `at`
abbrev pub decimals_fault : List ℕ → ℕ → LineFault
decimals_fault l at = decimals_up_to l at (digits_end at l)

-- the fault of a line whose whole milliseconds stand from `at` to `end`; decimals or the end of the time follow
unfoldable pub time_up_to : List ℕ → (at end : ℕ) → LineFault
time_up_to l at end =
    cond (eqb end at) (stray_at l end)
    (cond (leb (length l) end) NoLineFeed
    (cond (is_decimal_mark (get_or l end 0)) (decimals_fault l (end + 1)) (end_fault l end)))

-- the fault of a line whose time begins at `at`
abbrev pub time_fault : List ℕ → ℕ → LineFault
time_fault l at = time_up_to l at (digits_end at l)

-- the fault of a line that begins with this number: it must fit its field, and a semicolon and the time follow
unfoldable pub number_fault : List ℕ → Number → LineFault
number_fault l number =
    cond (eqb number.end 0) (start_fault l)
    (cond (ltb number_most number.value) NumberOver
    (cond (leb (length l) number.end) NoLineFeed
    (cond (eqb (get_or l number.end 0) semicolon) (time_fault l (number.end + 1)) (stray_at l number.end))))

-- the fault of a line
abbrev pub line_fault : List ℕ → LineFault
line_fault l = number_fault l (number_at 0 l)
