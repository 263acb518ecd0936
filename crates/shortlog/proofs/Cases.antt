-- The table of logs, and the numbers found of two of them, by computation of the definitions that it opens. Assumes nothing.
use mathlib.Core.Path.{refl}
use Rattle.octets.specs.Text.{lines}
use Rattle.decimal.specs.Decimal.{decimal_value}
use Rattle.decimal.specs.Reading.{digit, digit_count}
use Rattle.rfc4737.specs.Judge.{judge_one}
use Rattle.rfc4737.specs.Refusals.{outside}
use Rattle.rfc4737.specs.Times.{too_early, next_reference}
use Rattle.shortnumbers.specs.Number.{number_found}
use Rattle.shortnumbers.specs.InTurn.{greatest_of, in_turn}
use Rattle.textlog.specs.Decode.{is_decimal_mark, in_range, fraction_in, time_in, line_in, decode_line, arrivals_of_lines, judge_lines, judge_decoded}
use Rattle.shortlog.specs.Cases.{ShortLogsAsGiven}

pub as-given : ShortLogsAsGiven
unfolding digit is_decimal_mark digit_count in_range fraction_in time_in line_in decode_line outside decimal_value lines arrivals_of_lines judge_lines
    judge_decoded judge_one too_early next_reference number_found greatest_of in_turn
as-given = record { judged = refl; eight = refl; ten = refl }
