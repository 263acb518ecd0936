-- Definitions for the contracts of private functions; no public contract reaches them. The pairs of some first arrivals, and the tree that
-- counts them. Assumes nothing.
use Rattle.std.specs.Prelude.{◌≡◌, List, ℕ, ◌+◌, ◌*◌, ◌≤◌, ◌<◌, length}
use Rattle.rfc4737.specs.declared.Arrival.{Arrival}
use Rattle.rfc4737.specs.Judge.{arrivals_most}
use Rattle.rfc4737.specs.Extent.{byte_offset}
use Rattle.disorder.specs.Disorder.{wrong_pairs}
use Rattle.sums.specs.Tree.{Summed}
use Rattle.disorder.specs.declared.pairs.Pairs.{Pairs}

-- a tree with an index for each of k packets, and the pairs of the first arrivals fs
pub record PairTree (k : ℕ) (fs : List Arrival) (tree : List ℕ) (p : Pairs) : Type 0 where
  pub places : length tree ≡ k + 1
  pub summed : Summed (byte_offset (λ _. 1) fs) tree
  pub count : p.count ≡ length fs
  pub whole : p.count ≡ byte_offset (λ _. 1) fs 0
  pub wrong : p.wrong ≡ wrong_pairs fs
  pub small : p.wrong ≤ arrivals_most * p.count
  pub above : (s : ℕ) → p.greatest ≤ s → byte_offset (λ _. 1) fs s ≡ 0

-- the pairs of fewer than 4,096 first arrivals
pub record FewPairs (tree : List ℕ) (p : Pairs) : Type 0 where
  pub k : ℕ
  pub fs : List Arrival
  pub paired : PairTree k fs tree p
  pub few : p.count < arrivals_most
