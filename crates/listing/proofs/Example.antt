-- The listing of the scope's example is the text that the scope has, by computation of the definitions. Assumes nothing.
use mathlib.Core.Path.{refl}
use mathlib.Core.List.{flatten}
use Rattle.decimal.specs.Decimal.{digits_of, decimal_of}
use Rattle.rfc4737.specs.Arrivals.{has, with_arrival, firsts, record_from, first_record, each_after, each, count}
use Rattle.rfc4737.specs.Order.{next_after, next_exp, is_in_order, jump_size, placed}
use Rattle.rfc4737.specs.Extent.{first_above, discontinuity, extent_from, late_from, size_in, byte_offset, largest_n}
use Rattle.rfc4737.specs.Times.{elapsed}
use Rattle.rfc4737.specs.Answer.{in_order_answer, reordered_answer, first_answer, answer_to, answers}
use Rattle.rfc4737.specs.Runs.{arrived, lengthened, ended, runs_after, runs, counts}
use Rattle.rfc4737.specs.Judge.{arrivals_from}
use Rattle.rfc4737.specs.Cases.{case_figures, measured, p1}
use Rattle.listing.specs.Lines.{late_time, header_line, record_line, end_line, record_lines_from, record_lines, listing_of}
use Rattle.listing.specs.Example.{listing_of_case, ExampleHolds}

pub example-holds : ExampleHolds
unfolding flatten digits_of decimal_of has with_arrival firsts record_from first_record each_after each count next_after next_exp is_in_order
    jump_size placed first_above discontinuity extent_from elapsed late_from size_in byte_offset largest_n in_order_answer reordered_answer
    first_answer answer_to answers arrived lengthened ended runs_after runs counts case_figures measured arrivals_from p1 late_time header_line
    record_line end_line record_lines_from record_lines listing_of listing_of_case
example-holds = refl
