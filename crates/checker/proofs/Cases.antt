-- Each listing of the table gets its verdict, by computation of the definitions. Assumes nothing.
use mathlib.Core.Path.{refl}
use mathlib.Core.List.{flatten}
use Rattle.octets.specs.Text.{lines}
use Rattle.metrics.specs.Agreement.{same_text}
use Rattle.checker.specs.Verdict.{verdict_on_lines, verdict_on}
use Rattle.checker.specs.Cases.{listing_cases, ListingCasesHold}

pub cases-hold : ListingCasesHold
unfolding lines verdict_on_lines verdict_on same_text listing_cases flatten
cases-hold = refl
