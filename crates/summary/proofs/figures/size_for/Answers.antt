-- `summary::figures::size_for` meets its contract: a share of 1 to 100 of 100 is not refused. Assumes nothing.
use Rattle.std.proofs.Common.{◌≡◌, ◌≤◌, ℕ, Bool, [], cond, ap, ◌∙◌}
use Rattle.rfc4737.specs.declared.Measure.{Measure}
use Rattle.rfc4737.proofs.Due.{not-outside}
use Rattle.sample.specs.Decode.{Decoded}
use Rattle.metrics.specs.Sample.{answers_of}
use Rattle.buffering.specs.declared.SampleLeast.{SampleLeast}
use Rattle.buffering.specs.Least.{least_size, sample_least}
use Rattle.summary.proofs.figures.size_for.Goals as goal

inside : (d : Decoded) (m : Measure) (share : ℕ) (r : SampleLeast) → 1 ≤ share → share ≤ 100 → r ≡ sample_least d m share 100
    → r.size ≡ least_size m share 100 (answers_of d)
unfolding sample_least
inside d m share r low high e =
    ap (λ (r : SampleLeast). r.size) e ∙ ap (λ (b : Bool). least_size m share 100 (cond b [] (answers_of d)))
    (not-outside 1 100 share low high)

pub returns : goal.returns
returns c = inside _ c.args.measure c.args.share c.least.result c.requires.0 c.requires.1 c.least.ensures.value
