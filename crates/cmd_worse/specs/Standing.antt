-- The comparison of two samples by their reordered ratios. Assumes nothing.
use Rattle.std.specs.Prelude.{cond}
use Rattle.rfc4737.specs.declared.Counts.{Counts}
use Rattle.worse.specs.Worse.{reordered_ratio, greater}
use Rattle.cmd_worse.specs.declared.ratio.Standing.{Standing}
use Rattle.cmd_worse.specs.declared.ratio.Standing.TheVariants.{Equal, First, Second}

-- the sample with the greater ratio, or `Equal`
unfoldable pub standing : Counts → Counts → Standing
standing a b =
    cond (greater (reordered_ratio a) (reordered_ratio b)) First
    (cond (greater (reordered_ratio b) (reordered_ratio a)) Second Equal)
