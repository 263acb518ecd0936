-- What the tables of the engine hold after some arrivals, and the class that they give an arrival. Assumes nothing.
use Rattle.std.specs.Prelude.{◌≡◌, false, cond, List, [], ◌∷◌, ◌++◌, ℕ, ◌+◌, ◌-◌, ◌≤◌, ◌<◌, eqb, leb, length, take, set, get_or}
use Rattle.std.proofs.Math.Option.{some}
use Rattle.rfc4737.specs.declared.Arrival.{Arrival}
use Rattle.rfc4737.specs.declared.Answer.{Answer}
use Rattle.rfc4737.specs.declared.ReorderedFigures.{ReorderedFigures}
use Rattle.rfc4737.specs.Arrivals.{has, firsts, first_record}
use Rattle.rfc4737.specs.Order.{FirstArrival, next_exp}
use Rattle.rfc4737.specs.Extent.{discontinuity, largest_n}
use Rattle.rfc4737.specs.Judge.{sent_most, arrivals_most}
use Rattle.sample.specs.Places.{no_arrival}
use Rattle.metrics.specs.Records.{number_places}
use Rattle.metrics.specs.declared.engine.kind.Class.{Class}
use Rattle.metrics.specs.declared.engine.seen.Seen.{Seen}
use Rattle.metrics.specs.declared.engine.seen.State.{State}
use Rattle.metrics.specs.declared.engine.seen.Tables.{Tables}

-- `new` is `old` with `value` at the indices from `from` to before `to`
pub record Filled (from to value : ℕ) (old new : List ℕ) : Type 0 where
  pub same : length new ≡ length old
  pub inside : (k : ℕ) → from ≤ k → k < to → get_or new k 0 ≡ value
  pub below : (k : ℕ) → k < from → get_or new k 0 ≡ get_or old k 0
  pub past : (k : ℕ) → to ≤ k → get_or new k 0 ≡ get_or old k 0

-- the table `numbers` begins with the numbers of the first arrivals, in their order; there are `count` of them
pub record NumberTable (fs : List Arrival) (numbers : List ℕ) (count : ℕ) : Type 0 where
  pub all : count ≡ length fs
  pub at : (p : ℕ) → p < length fs → get_or numbers p 0 ≡ (get_or fs p no_arrival).number

-- the first `count` entries of the table are numbers from 1 to `most`
pub record Packets (numbers : List ℕ) (count most : ℕ) : Type 0 where
  pub inside : (p : ℕ) → p < count → (1 ≤ get_or numbers p 0) × (get_or numbers p 0 ≤ most)

-- the entries of the table at the indices from `low` to before `high` are greater than s
pub record Above (numbers : List ℕ) (s low high : ℕ) : Type 0 where
  pub order : low ≤ high
  pub at : (p : ℕ) → low ≤ p → p < high → s < get_or numbers p 0

-- links: for the first arrival at index p, `links[numbers[p]] + more - 1` entries directly before it are greater than its number
pub record Links (more : ℕ) (numbers links : List ℕ) (count : ℕ) : Type 0 where
  pub packet : (p : ℕ) → p < count → get_or numbers p 0 ≤ sent_most
  pub inside : (p : ℕ) → p < count → (1 ≤ more + get_or links (get_or numbers p 0) 0) × (more + get_or links (get_or numbers p 0) 0 ≤ p + 1)
  pub at : (p : ℕ) → p < count → Above numbers (get_or numbers p 0) (p + 1 - more - get_or links (get_or numbers p 0) 0) p

-- the table `records` has for each packet the record of its first arrival, or 0 if it has not arrived
pub record RecordTable (earlier : List Arrival) (records : List ℕ) : Type 0 where
  pub at : (s : ℕ) → 1 ≤ s → s ≤ sent_most → get_or records s 0 ≡ first_record s earlier

-- the tables and the state after the arrivals `earlier`: the numbers of the first arrivals, their records, and for each packet that
-- would be reordered the position of its discontinuity
pub record EngineTables (earlier : List Arrival) (numbers records skipped : List ℕ) (state : State) : Type 0 where
  pub places : (length numbers ≡ sent_most) × (length records ≡ number_places) × (length skipped ≡ number_places)
  pub numbered : NumberTable (firsts earlier) numbers state.count
  pub next : state.next ≡ next_exp (firsts earlier)
  pub recorded : RecordTable earlier records
  pub skips : (s : ℕ) → 1 ≤ s → s < next_exp (firsts earlier) → has s earlier ≡ false
      → (p : FirstArrival) → discontinuity (firsts earlier) s ≡ some p → get_or skipped s 0 ≡ p.position

-- the same of the tables of the engine
abbrev pub TablesAt : (earlier : List Arrival) → Tables → State → Type 0
TablesAt earlier tables state = EngineTables earlier tables.numbers tables.seen.records tables.seen.skipped state

-- the same of the tables by packet number, which stand without the numbers: with those of the first arrivals they are the tables
pub record SeenAt (earlier : List Arrival) (seen : Seen) (state : State) : Type 0 where
  pub numbers : List ℕ
  pub follows : EngineTables earlier numbers seen.records seen.skipped state

-- links by the largest n: for each first arrival, `links[number] + more == largest n + 1`; from NextExp on every entry is 0
pub record LinkTable (more : ℕ) (fs : List Arrival) (links : List ℕ) : Type 0 where
  pub at : (p : ℕ) → p < length fs → more + get_or links (get_or fs p no_arrival).number 0
      ≡ largest_n (take p fs) (get_or fs p no_arrival).number + 1
  pub ahead : (s : ℕ) → next_exp fs ≤ s → get_or links s 0 ≡ 0

-- record i + 1, an arrival of packet `number`, can be noted: the tables and the state are those after the first i arrivals
pub record NextRecord (numbers records skipped : List ℕ) (state : State) (i number : ℕ) : Type 0 where
  pub earlier : List Arrival
  pub follows : EngineTables earlier numbers records skipped state
  pub many : length earlier ≡ i
  pub few : i < arrivals_most
  pub low : 1 ≤ number
  pub high : number ≤ sent_most

-- record i + 1, an arrival of packet `number`, has been noted: the tables and the state are those after it. If `largest` is its largest
-- n where it is reordered, the links stay links by the largest n
pub record NotedRecord (i number largest : ℕ) (numbers records skipped : List ℕ) (state : State) (numbers' records' skipped' : List ℕ)
    (state' : State) : Type 0 where
  pub follows : (l : List Arrival) (a : Arrival) → length l ≡ i → a.number ≡ number → EngineTables l numbers records skipped state
      → EngineTables (l ++ (a ∷ [])) numbers' records' skipped' state'
  pub linked : (l : List Arrival) (a : Arrival) → length l ≡ i → a.number ≡ number → EngineTables l numbers records skipped state
      → (has number l ≡ false → number < next_exp (firsts l) → largest ≡ largest_n (firsts l) number)
      → LinkTable 1 (firsts l) skipped → LinkTable 1 (firsts (l ++ (a ∷ []))) skipped'

-- record i + 1, an arrival of packet `number`, can be noted in the tables by packet number: with some numbers it can be in all tables
pub record NextSeen (records skipped : List ℕ) (state : State) (i number : ℕ) : Type 0 where
  pub numbers : List ℕ
  pub next : NextRecord numbers records skipped state i number

-- record i + 1, an arrival of packet `number`, has been noted in the tables by packet number: once its number is put after those of the
-- first arrivals, it has been noted in all tables
abbrev pub NotedSeen : (i number largest : ℕ) (records skipped : List ℕ) (state : State) (records' skipped' : List ℕ) (state' : State)
    → Type 0
NotedSeen i number largest records skipped state records' skipped' state' =
    (numbers : List ℕ) → NotedRecord i number largest numbers records skipped state (set numbers state.count number) records' skipped' state'

-- the class of an arrival of packet `number`, by the tables and NextExp
unfoldable pub class_by : List ℕ → List ℕ → ℕ → ℕ → Class
class_by records skipped next number =
    cond (eqb (get_or records number 0) 0)
    (cond (leb next number) (Class.InOrder (number - next)) (Class.Reordered (get_or skipped number 0)))
    (Class.Duplicate (get_or records number 0))

-- the answer for an arrival of this class after `count` first arrivals; late time, byte offset and largest n are those of f
abbrev pub answer_by : ℕ → Class → ReorderedFigures → Answer
answer_by count (Class.Duplicate first) f = Answer.Duplicate (record { first = first })
answer_by count (Class.InOrder jump) f = Answer.InOrder (record { position = count + 1; jump = jump })
answer_by count (Class.Reordered at) f =
    Answer.Reordered (record { position = count + 1; extent = count + 1 - at; late = f.late; offset = f.offset; largest = f.largest })

-- `class` is the class of the answer a, after `count` first arrivals
pub record ClassOf (count : ℕ) (class : Class) (a : Answer) : Type 0 where
  pub figures : ReorderedFigures
  pub is : a ≡ answer_by count class figures

-- `holds` of the position of the discontinuity, if the class is that of a reordered packet
abbrev pub IfLate : (ℕ → Type 0) → Class → Type 0
IfLate holds (Class.Duplicate first) = Unit
IfLate holds (Class.InOrder jump) = Unit
IfLate holds (Class.Reordered at) = holds at
