-- The gaps of the records passed are listed; `listed` counts the first arrivals among them, and has the last discontinuity.
use Rattle.metrics.specs.Gaps.{gap_numbers}
use Rattle.metrics.specs.Private.Steps.{found, known, last_to}
use Rattle.metrics.specs.Records.{before}
use Rattle.metrics.specs.Sample.{answers_of}
use Rattle.rfc4737.specs.Arrivals.{firsts}
use Rattle.sample.specs.Decode.{decode}
use lib.ListN.{drop, length, take}
use mathlib.Core.List.{◌++◌}
use mathlib.Core.Path.{◌≡◌}
use Rattle.metrics.proofs.figures.gaps.list_gaps.Given as goal

abbrev pub invariant-loop-i : goal.invariant-loop-i
invariant-loop-i l = (length l.gaps ≡ length l.initial.gaps) × (l.listed.count ≡ length (firsts (before (decode l.file.file.now) l.i)))
    × (found l.listed.last ≡ known (last_to l.discoverers l.listed.count))
    × (l.gaps ≡ take l.i (gap_numbers (answers_of (decode l.file.file.now))) ++ drop l.i l.initial.gaps)
