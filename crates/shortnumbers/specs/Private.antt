-- What private functions say to each other, which no public contract reaches: the ranges that the code takes. Assumes nothing.
use Rattle.std.specs.Prelude.{ℕ, ◌+◌, ◌/◌, ◌≤◌, ◌≡◌}

-- an even range of at most 10 bits
pub record Narrow (r : ℕ) : Type 0 where
  pub least : 2 ≤ r
  pub most : r ≤ 1024
  pub even : r ≡ r / 2 + r / 2
