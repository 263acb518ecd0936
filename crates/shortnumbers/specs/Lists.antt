-- The list calls: their answers, the caller's list after them, and the theorems that their contracts carry. Assumes nothing.
use Rattle.std.specs.Prelude.{ℕ, ◌^◌, ◌≤◌, List, [], ◌∷◌, map, ◌≡◌, ltb, length}
use Rattle.octets.specs.Memory.{over}
use Rattle.octets.specs.Below.{Below}
use Rattle.rfc4737.specs.Judge.{refusal_of_lists}
use Rattle.rfc4737.specs.Refusals.{refusal_if, first_refusal, output_short}
use Rattle.sample.specs.Format.{file_of}
use Rattle.sample.specs.Decode.{decode, accepted}
use Rattle.sample.specs.Calls.{sample_from}
use Rattle.sample.specs.Judge.{sample_refusal}
use Rattle.sample.specs.Output.{if_none}
use Rattle.shortnumbers.specs.Number.{range_of, short_of, Near, number_found, ExactNumber}
use Rattle.shortnumbers.specs.InTurn.{greatest_of, in_turn, EachKeeps}

-- the numbers found of a list of short ones
abbrev pub numbers_found : ℕ → List ℕ → List ℕ
numbers_found r shorts = in_turn greatest_of (number_found r) [] shorts

-- the first refusal that applies where a list of `room` places is filled: those of K, the numbers found and the times, then 8
unfoldable pub fill_refusal : (r k room : ℕ) (shorts times : List ℕ) → ℕ
fill_refusal r k room shorts times =
    first_refusal
    (refusal_of_lists k (numbers_found r shorts) times
    ∷ refusal_if (ltb room (length shorts)) output_short
    ∷ [])

-- the answer, and the lent list after it: the numbers found from its start, all else as it was
pub record FilledTo (r k : ℕ) (shorts times numbers : List ℕ) (answer : ℕ) (numbers' : List ℕ) : Type 0 where
  pub refusal : answer ≡ fill_refusal r k (length numbers) shorts times
  pub filled : numbers' ≡ if_none answer (over (numbers_found r shorts) numbers) numbers

-- ---- the theorems, over a range

-- true numbers that each keep the distance from the greatest true one before them are the numbers found
abbrev pub TrueInLists : ℕ → Type 0
TrueInLists r = (numbers : List ℕ) → EachKeeps greatest_of (Near r) numbers → numbers_found r (map (short_of r) numbers) ≡ numbers

-- demand 2 for the numbers found: with a label and K payload sizes, all of them such as the sample's writer takes, they are a sample to
-- which its file decodes
abbrev pub Demand2Reads : ℕ → Type 0
Demand2Reads r =
    (shorts times label sizes : List ℕ) → Below (2 ^ 16) sizes → Below (2 ^ 64) times
    → sample_refusal label sizes (numbers_found r shorts) times ≡ 0
    → decode (file_of (sample_from label sizes (numbers_found r shorts) times))
    ≡ accepted (sample_from label sizes (numbers_found r shorts) times)

-- all theorems for one width
pub record ListsOfWidth (w : ℕ) : Type 0 where
  pub exact : ExactNumber (range_of w)
  pub finds : TrueInLists (range_of w)
  pub demand2 : Demand2Reads (range_of w)

-- all theorems for every width
abbrev pub EveryList : Type 0
EveryList = (w : ℕ) → 1 ≤ w → ListsOfWidth w
