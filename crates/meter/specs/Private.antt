-- What private functions say to each other, which no public contract reaches. Assumes nothing.
use Rattle.std.specs.Prelude.{ℕ, ◌+◌, Bool, ◌&&◌, leb}
use Rattle.meter.specs.Streams.{most_kept, shared}

-- two streams that keep `first` and `second` jumps keep as few as those of a fit meter
abbrev pub few_kept : ℕ → ℕ → Bool
few_kept first second = leb first most_kept && (leb second most_kept && leb (first + second) shared)
