-- The cases P1 to P11 and the quotients hold, by computation of the definitions over both tables. Assumes nothing.
use mathlib.Core.Path.{◌≡◌, refl}
use mathlib.Core.List.{map, flatten}
use lib.Ieee.{div, of_int}
use Rattle.rfc4737.specs.Arrivals.{has, with_arrival, firsts, record_from, first_record, each_after, each, count}
use Rattle.rfc4737.specs.Order.{next_after, next_exp, is_in_order, jump_size, placed}
use Rattle.rfc4737.specs.Extent.{first_above, discontinuity, extent_from, late_from, size_in, byte_offset, largest_n}
use Rattle.rfc4737.specs.Times.{elapsed}
use Rattle.rfc4737.specs.Answer.{in_order_answer, reordered_answer, first_answer, answer_to, answers}
use Rattle.rfc4737.specs.Gaps.{belongs_to, position_of, discoverer, discontinuities_to, discontinuities, earlier, neighbour, gap_over, gap_of, gaps}
use Rattle.rfc4737.specs.Runs.{arrived, lengthened, ended, runs_after, runs, counts}
use Rattle.rfc4737.specs.Tally.{tally_place, one_more_at, tally_after, tally}
use Rattle.rfc4737.specs.Ratios.{is_n_reordered, quotient, share, ratios}
use Rattle.rfc4737.specs.Judge.{arrivals_from}
use Rattle.rfc4737.specs.Cases.{CasesHold, Case, closes, case_figures, measured, every_ten, with_gaps, tallied, p1, p2, p3, p4, p5, p6, p7, p8, p9, p10, p11, worked_cases, quotient_table}

figures : map measured worked_cases ≡ map (λ (c : Case). c.given) worked_cases
unfolding flatten has with_arrival firsts record_from first_record each_after each count next_after next_exp is_in_order jump_size placed
    first_above discontinuity extent_from elapsed late_from size_in byte_offset largest_n in_order_answer reordered_answer first_answer answer_to
    answers belongs_to position_of discoverer discontinuities_to discontinuities earlier neighbour gap_over gap_of gaps arrived lengthened
    ended runs_after runs counts tally_place one_more_at tally_after tally is_n_reordered share ratios closes case_figures measured arrivals_from
    every_ten with_gaps tallied p1 p2 p3 p4 p5 p6 p7 p8 p9 p10 p11 worked_cases
figures = refl

pub cases-hold : CasesHold
unfolding div of_int quotient quotient_table
cases-hold = record { figures = figures; quotients = refl }
