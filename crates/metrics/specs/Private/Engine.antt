-- The state of the engine after some arrivals. Assumes nothing.
use Rattle.std.specs.Prelude.{◌≡◌, List, ℕ, ◌*◌, ◌≤◌, length, take}
use Rattle.rfc4737.specs.declared.Arrival.{Arrival}
use Rattle.rfc4737.specs.Arrivals.{firsts}
use Rattle.rfc4737.specs.Extent.{byte_offset}
use Rattle.rfc4737.specs.Judge.{sent_most}
use Rattle.sums.specs.Tree.{Summed}
use Rattle.sample.specs.declared.Layout.{Layout}
use Rattle.sample.specs.Decode.{Decoded}
use Rattle.metrics.specs.Sample.{size_of}
use Rattle.metrics.specs.Records.{before}
use Rattle.metrics.specs.Private.Tables.{NumberTable, Packets, TablesAt, LinkTable}
use Rattle.metrics.specs.declared.engine.byte_offset.PairTree.{PairTree}
use Rattle.metrics.specs.declared.engine.Engine.{Engine}

-- the tree has the payload sizes of the first `filled` first arrivals, summed by pairs of packets; `total` is the sum of all of them
pub record SizeTree (size : ℕ → ℕ) (fs : List Arrival) (tree : PairTree) : Type 0 where
  pub places : length tree.sums ≡ 2049
  pub some : tree.filled ≤ length fs
  pub summed : Summed (λ (k : ℕ). byte_offset size (take tree.filled fs) (k * 2)) tree.sums
  pub whole : tree.total ≡ byte_offset size (take tree.filled fs) 0

-- the first arrivals in the table `numbers` can be entered in the tree
pub record FillInput (d : Decoded) (layout : Layout) (numbers : List ℕ) (tree : PairTree) (count : ℕ) : Type 0 where
  pub few : count ≤ sent_most
  pub packets : Packets numbers count layout.sent
  pub fs : List Arrival
  pub numbered : NumberTable fs numbers count
  pub totalled : SizeTree (size_of d) fs tree

-- the engine after the first i arrivals
pub record EngineState (d : Decoded) (i : ℕ) (engine : Engine) : Type 0 where
  pub follows : TablesAt (before d i) engine.tables engine.state
  pub linked : LinkTable 1 (firsts (before d i)) engine.tables.seen.skipped
  pub totalled : SizeTree (size_of d) (firsts (before d i)) engine.tree
