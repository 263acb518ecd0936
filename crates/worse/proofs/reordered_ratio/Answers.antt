-- `worse::reordered_ratio` meets its contract: its test is that of the definition, whether the ratio is defined. Assumes nothing.
use Rattle.std.proofs.Common.{eq-eqb, ne_eqb}
use Rattle.worse.specs.Worse.{reordered_ratio}
use Rattle.worse.proofs.reordered_ratio.Goals as goal

pub returns-then-counts-eq0 : goal.returns-then-counts-eq0
unfolding reordered_ratio
returns-then-counts-eq0 c = simp (eq-eqb _ _ c.if-counts-eq0.true)

pub returns : goal.returns
unfolding reordered_ratio
returns c = simp (ne_eqb _ _ c.if-counts-eq0.false)
