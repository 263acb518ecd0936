-- The faults of the table, by computation. Assumes nothing.
use mathlib.Core.Path.{refl}
use Rattle.decimal.specs.Decimal.{decimal_value}
use Rattle.decimal.specs.Reading.{digit, digit_count}
use Rattle.textlog.specs.Decode.{is_decimal_mark}
use Rattle.line_faults.specs.Faults.{has_byte_order_mark, stray_at, start_fault, end_fault, decimals_up_to, time_up_to, number_fault}
use Rattle.line_faults.specs.Cases.{FaultsAsGiven}

pub faults_as_given : FaultsAsGiven
unfolding decimal_value digit digit_count is_decimal_mark has_byte_order_mark stray_at start_fault end_fault decimals_up_to time_up_to number_fault
faults_as_given = record { faults = refl }
