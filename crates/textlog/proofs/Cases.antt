-- The tables of lines and logs, and the written log, by computation. Assumes nothing.
use mathlib.Core.Path.{refl}
use Rattle.octets.specs.Text.{lines}
use Rattle.decimal.specs.Decimal.{digits_of, decimal_of, decimal_value}
use Rattle.decimal.specs.Reading.{digit, digit_count}
use Rattle.rfc4737.specs.Judge.{judge_one}
use Rattle.rfc4737.specs.Refusals.{outside}
use Rattle.rfc4737.specs.Times.{too_early, next_reference}
use Rattle.sample.specs.Format.{item_octets}
use Rattle.textlog.specs.Form.{arrival_line}
use Rattle.textlog.specs.Decode.{is_decimal_mark, in_range, fraction_in, time_in, line_in, decode_line, judge_lines, judge_decoded}
use Rattle.textlog.specs.Cases.{LinesReadAsGiven, LinesWrittenAsGiven}

pub read-as-given : LinesReadAsGiven
unfolding digit is_decimal_mark digit_count in_range fraction_in time_in line_in decode_line outside decimal_value lines judge_lines judge_decoded
    judge_one too_early next_reference
read-as-given = record { decoded = refl; judged = refl }

pub written-as-given : LinesWrittenAsGiven
unfolding digits_of decimal_of arrival_line item_octets
written-as-given = record { written = refl }
