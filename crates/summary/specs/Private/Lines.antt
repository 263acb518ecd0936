-- The lines of a section from a list of figures, and what lists have the figures of a sample. Assumes nothing.
use Rattle.std.specs.Prelude.{◌≡◌, List, [], ◌++◌, ℕ, zero, suc, ◌<◌, length, get_or, None}
use Rattle.rfc4737.specs.declared.Answer.{Answer}
use Rattle.rfc4737.specs.declared.Runs.{Runs}
use Rattle.rfc4737.specs.Runs.{runs}
use Rattle.rfc4737.specs.Tally as Tally
use Rattle.rfc4737.specs.Gaps.{gaps}
use Rattle.rfc4737.specs.Ratios.{n_reordered}
use Rattle.metrics.specs.Figures.{at_record}
use Rattle.metrics.specs.Gaps.{number_gap}
use Rattle.summary.specs.declared.all.Kind.{Kind}
use Rattle.summary.specs.All.{pair_line, extent_line}

-- the line of n and its figure, a gap as a number
unfoldable pub figure_line : Kind → (n figure : ℕ) → List ℕ
figure_line Kind.Extent n figure = extent_line n figure
figure_line Kind.Degree n figure = pair_line n figure
figure_line Kind.Gap n figure = extent_line n figure

-- the lines of 1 to n, whose figures are the first n
unfoldable pub figure_lines : Kind → (figures : List ℕ) → ℕ → List ℕ
figure_lines kind figures zero = []
figure_lines kind figures (suc n) = figure_lines kind figures n ++ figure_line kind (suc n) (get_or figures n 0)

-- the list has the numbers of n-reordered packets for n = 1 to 10
pub record DegreesOf (l : List Answer) (list : List ℕ) : Type 0 where
  pub at : (k : ℕ) → k < 10 → get_or list k 0 ≡ n_reordered (suc k) l

-- the lists have the tally and the numbers of n-reordered packets
pub record CountsOf (l : List Answer) (tally degrees : List ℕ) : Type 0 where
  pub extents : tally ≡ Tally.tally l
  pub reordered : DegreesOf l degrees

-- the lists have all figures but the summary's; the gaps stand as numbers
pub record FiguresOf (l : List Answer) (tally degrees list : List ℕ) (r : Runs) : Type 0 where
  pub counts : CountsOf l tally degrees
  pub gap : (k : ℕ) → k < length list → number_gap (get_or list k 0) ≡ at_record None (gaps l) (suc k)
  pub ran : r ≡ runs l
