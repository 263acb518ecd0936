-- The sums of the counts are what buffers of the sizes accommodate (`steps-made`), and no sum is great (`steps-few`). Assumes nothing.
use Rattle.metrics.proofs.Accommodation.{steps-few, steps-made}
use Rattle.metrics.specs.Figures.{sample_steps}
use mathlib.Core.Path.{◌∙◌}
use Rattle.metrics.proofs.accommodated_steps.Goals as goal

pub sum_up-requires : goal.sum_up-requires
sum_up-requires c =
    let n = c.needs_of-needs.ensures in (n.places, steps-few _ _ c.new-file.result.laid _ _ _ _ _ n)

pub returns : goal.returns
unfolding sample_steps
returns c =
    let n = c.needs_of-needs.ensures in
    let s = c.sum_up.ensures in
    let laid = c.new-file.result.laid.laid in
    let made = steps-made _ _ _ _ _ s.0 (λ j few. s.1 j few ∙ n.at j few) in
    rw (← c.new-file.ensures) (λ i. record { refusal = (laid i).refusal; arrived = n.many i; greatest = n.most i; counts = made i })
