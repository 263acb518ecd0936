-- The state of the engine: the tables, the links and the tree. Before any record all are zeros (`engine-start`). The numbers of the first
-- arrivals are those of packets, so the links can be followed (`links-laid`) and the tree can be filled (`engine-filling`). After record
-- i + 1 the tables and links are those that noting leaves, if a reordered record is linked by its largest n (`linked-next`); and a tree
-- of some first arrivals stays one when others follow (`size-tree-grown`). So the state after record i + 1 is known (`engine-next`).
-- Here d is the decoded file, i the number of records before, f that the tables follow them, k the class of record i + 1, late its
-- figures if it is reordered, n that it is noted, t the totals, and a prime marks the values after it. Assumes nothing.
use mathlib.Core.Path.{◌≡◌, refl}
use mathlib.Core.Bool.{Bool, true, false}
use mathlib.Core.List.{List, [], ◌∷◌, ◌++◌}
use Prim.Native.Nat.{ℕ, ◌+◌, ◌≤◌}
use native.Mathlib.Omega.{arith}
use lib.ListN.{take, replicate, length-append}
use lib.Seq.{take-append-le}
use Rattle.rfc4737.specs.declared.Arrival.{Arrival}
use Rattle.rfc4737.specs.Arrivals.{has, firsts, with_arrival}
use Rattle.rfc4737.specs.Extent.{largest_n}
use Rattle.rfc4737.proofs.Arrivals.{firsts_more, with-duplicate, with_first}
use Rattle.rfc4737.specs.Judge.{sent_most}
use Rattle.sample.specs.declared.Layout.{Layout}
use Rattle.sample.specs.Decode.{Decoded}
use Rattle.metrics.specs.Sample.{size_of}
use Rattle.metrics.specs.Records.{arrival_at, before, HasRecord, number_places}
use Rattle.metrics.specs.Private.Tables.{NumberTable, EngineTables, Links, LinkTable, NotedRecord, class_by, IfLate}
use Rattle.metrics.specs.Private.Engine.{SizeTree, FillInput, EngineState}
use Rattle.metrics.specs.declared.engine.Engine.{Engine}
use Rattle.metrics.specs.declared.engine.kind.Class.{Class}
use Rattle.metrics.specs.declared.engine.seen.State.{State}
use Rattle.metrics.specs.declared.engine.byte_offset.PairTree.{PairTree}
use Rattle.metrics.proofs.TablesFollow.{before_more}
use Rattle.metrics.proofs.AnswersByClass.{packets, late-told}
use Rattle.metrics.proofs.OneArrivalMore.{follows-start}
use Rattle.metrics.proofs.Links.{linked-start, linked-links}
use Rattle.metrics.proofs.NotingArrivals.{noted-follows, noted-linked}
use Rattle.metrics.proofs.Pairs.{size-tree-none}

-- before any record
pub engine-start : (d : Decoded) → EngineState d 0
    (record {
      tables =
          record { numbers = replicate sent_most 0; seen = record { records = replicate number_places 0; skipped = replicate number_places 0 } };
      state = record { count = 0; next = 1 };
      tree = record { sums = replicate 2049 0; filled = 0; total = 0 };
    })
engine-start d = record { follows = follows-start d; linked = linked-start 1 d; totalled = size-tree-none (size_of d) (firsts (before d 0)) }

-- a tree of some first arrivals stays one where others come after them
size-tree-grown : (size : ℕ → ℕ) (fs more : List Arrival) (t : PairTree) → SizeTree size fs t → SizeTree size (fs ++ more) t
size-tree-grown size fs more t k =
    let same : take t.filled (fs ++ more) ≡ take t.filled fs = take-append-le t.filled fs more k.some in
    record {
      places = k.places;
      some = omega (arith, k.some, length-append fs more);
      summed = rw same k.summed;
      whole = rw same k.whole;
    }

module _ (d : Decoded) (layout : Layout) (i : ℕ) (h : HasRecord d layout i) where
  -- so does the tree after record i + 1
  pub size-tree-next : (t : PairTree) → SizeTree (size_of d) (firsts (before d i)) t
      → SizeTree (size_of d) (firsts (before d (i + 1))) t
  size-tree-next t k =
      rw (before_more d layout i h, firsts_more (before d i) (arrival_at d i)) (go (has (arrival_at d i).number (firsts (before d i))) refl)
    where
      go : (b : Bool) → has (arrival_at d i).number (firsts (before d i)) ≡ b
          → SizeTree (size_of d) (with_arrival (firsts (before d i)) (arrival_at d i)) t
      go true e = rw (with-duplicate (firsts (before d i)) (arrival_at d i) e) k
      go false e =
          rw (with_first (firsts (before d i)) (arrival_at d i) e)
          (size-tree-grown (size_of d) (firsts (before d i)) (arrival_at d i ∷ []) t k)

  -- the links can be followed
  pub links-laid : (more : ℕ) (numbers links : List ℕ) (count : ℕ) → NumberTable (firsts (before d i)) numbers count
      → LinkTable more (firsts (before d i)) links
      → (count ≤ sent_most) × Links more numbers links count
  links-laid more numbers links count n l =
      let k = packets d layout i h.file numbers count n (omega (arith, h.inside)) in
      (k.0, linked-links more (firsts (before d i)) numbers links count n (λ p g. omega (arith, k.1.inside p g, h.file.sent_few)) l)

  module _ (numbers records skipped : List ℕ) (state : State) (f : EngineTables (before d i) numbers records skipped state) where
    module _ (number : ℕ) (is : number ≡ (arrival_at d i).number) (low : 1 ≤ number) (high : number ≤ sent_most)
        (k : Class) (e : k ≡ class_by records skipped state.next number) (largest : ℕ) (R : Type 0)
        (late : IfLate (λ (at : ℕ). (largest ≡ largest_n (firsts (before d i)) number) × R) k)
        (numbers' records' skipped' : List ℕ) (state' : State)
        (n : NotedRecord i number largest numbers records skipped state numbers' records' skipped' state') where
      -- the links after record i + 1, which is linked by its largest n
      pub linked-next : LinkTable 1 (firsts (before d i)) skipped → LinkTable 1 (firsts (before d (i + 1))) skipped'
      linked-next l =
          noted-linked d layout i h numbers records skipped state f number is largest numbers' records' skipped' state' n
          (λ new behind. (late-told d i numbers records skipped state f number is low high k e late new behind).0) l

      -- the state after record i + 1
      pub engine-next : (tree' : PairTree) → LinkTable 1 (firsts (before d i)) skipped
          → SizeTree (size_of d) (firsts (before d i)) tree'
          → EngineState d (i + 1)
          (record { tables = record { numbers = numbers'; seen = record { records = records'; skipped = skipped' } }; state = state'; tree = tree' })
      engine-next tree' l t =
          record {
            follows = noted-follows d layout i h numbers records skipped state f number is largest numbers' records' skipped' state' n;
            linked = linked-next l;
            totalled = size-tree-next tree' t;
          }

  -- the tree can be filled
  pub engine-filling : (engine : Engine) → EngineState d i engine
      → FillInput d layout engine.tables.numbers engine.tree engine.state.count
  engine-filling engine r =
      let n = r.follows.numbered in
      let k = packets d layout i h.file engine.tables.numbers engine.state.count n (omega (arith, h.inside)) in
      record { few = k.0; packets = k.1; fs = firsts (before d i); numbered = n; totalled = r.totalled }
