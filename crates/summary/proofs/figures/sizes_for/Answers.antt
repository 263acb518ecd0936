-- `summary::figures::sizes_for` meets its contract: each size is that of a call. Assumes nothing.
use Rattle.summary.specs.Figures.{sizes_for}
use Rattle.summary.proofs.figures.sizes_for.Goals as goal

pub returns : goal.returns
unfolding sizes_for
returns c =
    λ i. record { time = c.size_for-time.ensures i; packets = c.size_for-packets.ensures i; octets = c.size_for-octets.ensures i }
