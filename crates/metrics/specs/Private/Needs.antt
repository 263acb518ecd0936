-- The state of a pass over the needs of a sample, its input for one record, and its step. Assumes nothing.
use Rattle.std.specs.Prelude.{◌≡◌, false, cond, List, ℕ, zero, suc, ◌+◌, ◌*◌, ◌^◌, ◌<◌, leb, length, max, get_or}
use Rattle.rfc4737.specs.declared.Answer.{Answer}
use Rattle.rfc4737.specs.declared.Arrival.{Arrival}
use Rattle.rfc4737.specs.declared.Measure.{Measure}
use Rattle.rfc4737.specs.Arrivals.{has, firsts}
use Rattle.rfc4737.specs.Runs.{arrived}
use Rattle.rfc4737.specs.Needs.{greatest_need, accommodated}
use Rattle.sample.specs.declared.Layout.{Layout}
use Rattle.sample.specs.Decode.{Decoded}
use Rattle.metrics.specs.Sample.{size_of}
use Rattle.metrics.specs.Figures.{step_count}
use Rattle.metrics.specs.Records.{HasRecord, arrival_at, before, answer_at}
use Rattle.metrics.specs.Private.Tables.{NumberTable, RecordTable, TablesAt, ClassOf, IfLate}
use Rattle.metrics.specs.Private.Engine.{SizeTree}
use Rattle.metrics.specs.declared.engine.byte_offset.PairTree.{PairTree}
use Rattle.metrics.specs.declared.engine.kind.Class.{Class}
use Rattle.metrics.specs.declared.engine.seen.State.{State}
use Rattle.metrics.specs.declared.engine.seen.Tables.{Tables}
use Rattle.metrics.specs.declared.figures.needs.Needs.{Needs}

-- the tables and the tree after the first i arrivals
pub record NeedState (d : Decoded) (i : ℕ) (tables : Tables) (tree : PairTree) (state : State) : Type 0 where
  pub follows : TablesAt (before d i) tables state
  pub totalled : SizeTree (size_of d) (firsts (before d i)) tree

-- what a pass knows of record i + 1, an arrival of this class, to find its need; if it is reordered, its packet has not arrived
pub record NeedInput (d : Decoded) (layout : Layout) (i : ℕ) (arrival : Arrival) (tables : Tables) (tree : PairTree) (count : ℕ)
    (class : Class) : Type 0 where
  pub there : HasRecord d layout i
  pub is : arrival ≡ arrival_at d i
  pub numbered : NumberTable (firsts (before d i)) tables.numbers count
  pub recorded : RecordTable (before d i) tables.seen.records
  pub classed : ClassOf count class (answer_at d i)
  pub new : IfLate (λ (at : ℕ). has arrival.number (firsts (before d i)) ≡ false) class
  pub totalled : SizeTree (size_of d) (firsts (before d i)) tree

-- the needs after a first arrival whose need is `need`
unfoldable pub needs_with : Needs → ℕ → Needs
needs_with needs need = record { arrived = needs.arrived + 1; greatest = max needs.greatest need }

-- the sum of the first n of some counts
unfoldable pub count_to : List ℕ → ℕ → ℕ
count_to counts zero = 0
count_to counts (suc n) = count_to counts n + get_or counts n 0

-- a need has been counted: the sum of the counts up to each size is 1 more if the size is at least the need, else the same
pub record Counted (low shift need : ℕ) (old new : List ℕ) : Type 0 where
  pub places : length new ≡ step_count
  pub at : (j : ℕ) → j < step_count → count_to new (suc j) ≡ cond (leb need (low + j * 2 ^ shift)) (count_to old (suc j) + 1)
      (count_to old (suc j))

-- what some answers need in a measure; the sum of the counts up to each size is what a buffer of that size accommodates
pub record NeedsOf (m : Measure) (low shift : ℕ) (l : List Answer) (needs : Needs) (counts : List ℕ) : Type 0 where
  pub many : needs.arrived ≡ arrived l
  pub most : needs.greatest ≡ greatest_need m l
  pub places : length counts ≡ step_count
  pub at : (j : ℕ) → j < step_count → count_to counts (suc j) ≡ accommodated m (low + j * 2 ^ shift) l
