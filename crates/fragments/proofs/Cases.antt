-- The tables of small lists, their flags, usable values and refusals, each by computation of the definitions that it opens. Assumes
-- nothing.
use mathlib.Core.Path.{refl}
use mathlib.Core.List.{flatten}
use Rattle.rfc4737.specs.Arrivals.{each, each_after}
use Rattle.rfc4737.specs.Refusals.{outside}
use Rattle.rfc4737.specs.Times.{too_early}
use Rattle.fragments.specs.Pieces.{any, copies, is_copy, first_after, no_copies}
use Rattle.fragments.specs.Order.{is_reordered_fragment, in_order_after, expected_after, expected, flag_after, flags}
use Rattle.fragments.specs.Usable.{has_octet, every_below, covered, complete, usable_after, usable}
use Rattle.fragments.specs.Judge.{is_unfit, judge_piece}
use Rattle.fragments.specs.Cases.{FlaggedAsGiven}

pub flagged-as-given : FlaggedAsGiven
unfolding flatten each each_after any copies is_copy first_after no_copies is_reordered_fragment in_order_after expected_after expected flag_after
    flags has_octet every_below covered complete usable_after usable outside too_early is_unfit judge_piece
flagged-as-given = record { marked = refl; refused = refl }
