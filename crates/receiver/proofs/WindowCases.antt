-- The window cases hold, by computation of the definitions over the whole table. Assumes nothing.
use mathlib.Core.Path.{refl}
use mathlib.Core.List.{flatten}
use Rattle.rfc4737.specs.Arrivals.{has, with_arrival, firsts, record_from, first_record, each_after, each}
use Rattle.rfc4737.specs.Order.{next_after, next_exp, is_in_order, jump_size, is_jump, placed, jump_after, jumps}
use Rattle.rfc4737.specs.Extent.{first_above, discontinuity, extent_from, late_from, byte_offset, largest_n}
use Rattle.rfc4737.specs.Answer.{in_order_answer, reordered_answer, first_answer, answer_to}
use Rattle.rfc4737.specs.Runs.{lengthened, ended}
use Rattle.rfc4737.specs.Times.{too_early, next_reference, greatest_time, elapsed}
use Rattle.rfc4737.specs.Refusals.{outside}
use Rattle.rfc4737.specs.Judge.{judge_one}
use Rattle.receiver.specs.Outcomes.{lateness_from}
use Rattle.receiver.specs.Marks.{mark_at, with_mark}
use Rattle.receiver.specs.Kept.{place_at, places_from, kept_of, kept_with, laid, with_jump, held_after}
use Rattle.receiver.specs.Fit.{every, stream_fit, jump_fit, places_fit, fit}
use Rattle.receiver.specs.Step.{fresh_stream, made_for, fresh_of, step_refusal, reordered_outcome, first_outcome, unrefused_outcome, outcome_of, duplicate_stream, in_order_stream, reordered_stream, in_order_state, noted_state, step_with}
use Rattle.receiver.specs.Account.{account_refusal, account_with, account_of, answer_in, window_in, stands_in, is_in, in_window, beyond_figures, in_form, outcome_in}
use Rattle.receiver.specs.Demand3.{state_after, outcome_after}
use Rattle.receiver.specs.WindowCases.{evens_from, computed, outcome_due, case1, case2, case3, window_cases, WindowCasesHold}

pub window-cases-hold : WindowCasesHold
unfolding flatten has with_arrival firsts record_from first_record each_after each next_after next_exp is_in_order jump_size is_jump placed
    jump_after jumps first_above discontinuity extent_from late_from byte_offset largest_n in_order_answer reordered_answer first_answer answer_to
    lengthened ended too_early next_reference greatest_time elapsed outside judge_one mark_at with_mark place_at places_from kept_of kept_with laid
    with_jump held_after every stream_fit jump_fit places_fit fit fresh_stream made_for fresh_of step_refusal lateness_from reordered_outcome
    first_outcome unrefused_outcome outcome_of duplicate_stream in_order_stream reordered_stream in_order_state noted_state step_with account_refusal
    account_with account_of answer_in window_in stands_in is_in in_window beyond_figures in_form outcome_in state_after outcome_after evens_from
    computed outcome_due case1 case2 case3 window_cases
window-cases-hold = refl
