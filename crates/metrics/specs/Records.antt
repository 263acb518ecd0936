-- The records of a decoded file, one by one, and its layout. Private functions of this crate, of sweep and of disorder name these; no
-- public contract does. Assumes nothing.
use Rattle.std.specs.Prelude.{◌≡◌, ℕ, ◌<◌, ◌≤◌, List, take, get_or}
use Rattle.rfc4737.specs.declared.Arrival.{Arrival}
use Rattle.rfc4737.specs.declared.Answer.{Answer}
use Rattle.rfc4737.specs.Answer.{answer_to, answers}
use Rattle.rfc4737.specs.Judge.{sent_most, arrivals_most}
use Rattle.sample.specs.declared.Layout.{Layout}
use Rattle.sample.specs.Decode.{Decoded, layout_of}
use Rattle.sample.specs.Places.{no_arrival}
use Rattle.metrics.specs.Sample.{size_of, sample_arrivals}

-- the length of a table by packet number: index 0, and one for each number up to the greatest
abbrev pub number_places : ℕ
number_places = 4097

-- the arrival of record i + 1
abbrev pub arrival_at : Decoded → ℕ → Arrival
arrival_at d i = get_or (sample_arrivals d) i no_arrival

-- the arrivals before record i + 1
abbrev pub before : Decoded → ℕ → List Arrival
before d i = take i (sample_arrivals d)

-- the answer for record i + 1
abbrev pub answer_at : Decoded → ℕ → Answer
answer_at d i = answer_to (size_of d) (before d i) (arrival_at d i)

-- the answers for the records before record i + 1
abbrev pub answers_to : Decoded → ℕ → List Answer
answers_to d i = answers (size_of d) (before d i)

-- `layout` is the layout of a file; so K, A and the numbers of its sample are within their limits
pub record FileLayout (d : Decoded) (layout : Layout) : Type 0 where
  pub laid : layout ≡ layout_of d
  pub sent_few : layout.sent ≤ sent_most
  pub few : layout.arrivals ≤ arrivals_most
  pub numbers : (i : ℕ) → i < layout.arrivals → (1 ≤ (arrival_at d i).number) × ((arrival_at d i).number ≤ layout.sent)

-- a file of this layout has a record i + 1
pub record HasRecord (d : Decoded) (layout : Layout) (i : ℕ) : Type 0 where
  pub file : FileLayout d layout
  pub inside : i < layout.arrivals
