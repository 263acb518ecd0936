-- The figures of a sample for C. A value that may be missing becomes 1 and its figures, or zeros. An f64 becomes its bits. The row of an
-- answer is `row_of` of metrics. Assumes nothing.
use Rattle.std.specs.Prelude.{ℕ, List, [], ◌∷◌, None, Some}
use Rattle.std.specs.Float.{binary64}
use Rattle.std.specs.Float.Ieee.{to_bits}
use Rattle.rfc4737.specs.declared.Counts.{Counts}
use Rattle.rfc4737.specs.Gaps.{Gap}
use Rattle.rfc4737.specs.declared.Ratio.{Ratio}
use Rattle.rfc4737.specs.declared.Ratios.{Ratios}

-- the counts of a sample: first arrivals (L), reordered packets, duplicates, in-order packets, closed runs, the sum of the squares of their
-- lengths, and the length of the open run
abbrev pub count_figures : Counts → List ℕ
count_figures c =
    c.arrived ∷ c.reordered ∷ c.duplicates ∷ c.inorder ∷ c.runs.closed ∷ c.runs.squares ∷ c.runs.current ∷ []

-- the gap of a record, in positions
abbrev pub gap_figures : Gap → List ℕ
gap_figures None = 0 ∷ 0 ∷ []
gap_figures (Some p) = 1 ∷ p ∷ []

-- a degree of n-reordering
abbrev pub degree_figures : Ratio → List ℕ
degree_figures Ratio.Undefined = 0 ∷ 0 ∷ []
degree_figures (Ratio.Known x) = 1 ∷ to_bits binary64 x ∷ []

-- the ratios of a sample: the reordered ratio, and the degrees for n = 1 and n = 3
abbrev pub ratios_figures : Ratios → List ℕ
ratios_figures Ratios.Undefined = 0 ∷ 0 ∷ 0 ∷ 0 ∷ []
ratios_figures (Ratios.Known f) =
    1 ∷ to_bits binary64 f.reordered ∷ to_bits binary64 f.degree1 ∷ to_bits binary64 f.degree3 ∷ []
