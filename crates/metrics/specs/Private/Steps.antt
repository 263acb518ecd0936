-- The steps and results of the passes for single figures: the kind of an arrival, shares and ratios, discoverers of discontinuities.
-- Assumes nothing.
use Rattle.std.specs.Prelude.{◌≡◌, Bool, false, cond, not, List, ℕ, zero, suc, ◌+◌, ◌≤◌, eqb, leb, length, get_or, IfSome}
use Rattle.std.specs.Prelude.{Option as Found, Some, None}
use Rattle.std.proofs.Math.Option.{Option, none, some}
use Rattle.rfc4737.specs.declared.Arrival.{Arrival}
use Rattle.rfc4737.specs.declared.Answer.{Answer}
use Rattle.rfc4737.specs.declared.Ratio.{Ratio}
use Rattle.rfc4737.specs.declared.Ratios.{Ratios}
use Rattle.rfc4737.specs.Arrivals.{count, has, firsts}
use Rattle.rfc4737.specs.Order.{next_exp}
use Rattle.rfc4737.specs.Answer.{answers}
use Rattle.rfc4737.specs.Runs.{is_reordered, arrived}
use Rattle.rfc4737.specs.Gaps.{position_of, discoverer}
use Rattle.rfc4737.specs.Ratios.{quotient, n_reordered}
use Rattle.rfc4737.specs.Judge.{sent_most}
use Rattle.sample.specs.Decode.{Decoded}
use Rattle.metrics.specs.Records.{before, answer_at, number_places}
use Rattle.metrics.specs.Private.Tables.{NumberTable, LinkTable}
use Rattle.metrics.specs.declared.engine.kind.Class.{Class}
use Rattle.metrics.specs.declared.RecordAnswer.{RecordAnswer}
use Rattle.metrics.specs.declared.figures.Shares.{Shares}

-- ---- counts

-- the class of an arrival of packet `number`, with 0 in place of its figure, by the packets seen and NextExp
unfoldable pub kind_by : List Bool → ℕ → ℕ → Class
kind_by seen next number =
    cond (get_or seen number false) (Class.Duplicate 0) (cond (leb next number) (Class.InOrder 0) (Class.Reordered 0))

-- ---- degrees and ratios

-- `part` n-reordered packets, after another reordered one, with this largest n
abbrev pub reached_by : ℕ → ℕ → ℕ → ℕ
reached_by n largest part = cond (leb n largest) (part + 1) part

-- the shares of some arrivals, for a low and for a high n
unfoldable pub shares_of : ℕ → ℕ → (ℕ → ℕ) → List Arrival → Shares
shares_of low high size l =
    record {
      whole = arrived (answers size l);
      reordered = count is_reordered (answers size l);
      low = n_reordered low (answers size l);
      high = n_reordered high (answers size l);
      next = next_exp (firsts l);
    }

-- the shares and tables after some arrivals: the numbers of the first arrivals; and, by packet number, 1 more than its largest n, or 0 if
-- it has not arrived
pub record ShareTables (low high : ℕ) (size : ℕ → ℕ) (l : List Arrival) (numbers links : List ℕ) (counted : Shares) : Type 0 where
  pub shares : counted ≡ shares_of low high size l
  pub places : (length numbers ≡ sent_most) × (length links ≡ number_places)
  pub numbered : NumberTable (firsts l) numbers counted.whole
  pub linked : LinkTable 0 (firsts l) links
  pub arrived : (s : ℕ) → s ≤ sent_most → eqb (get_or links s 0) 0 ≡ not (has s l)

-- the ratio of a count over L
unfoldable pub ratio_by : ℕ → ℕ → Ratio
ratio_by part whole = cond (eqb whole 0) Ratio.Undefined (Ratio.Known (quotient part whole))

-- the ratio figures of three counts over L
unfoldable pub ratios_by : ℕ → ℕ → ℕ → ℕ → Ratios
ratios_by reordered degree1 degree3 whole =
    cond (eqb whole 0) Ratios.Undefined
    (Ratios.Known
    (record { reordered = quotient reordered whole; degree1 = quotient degree1 whole; degree3 = quotient degree3 whole }))

-- ---- gaps

-- the position that a number stands for: 0 stands for none
abbrev pub known : ℕ → Option ℕ
known zero = none
known (suc p) = some (suc p)

-- the table has at each position the discoverer of the discontinuity there, 0 where none is
pub record DiscoverersAt (l : List Answer) (discoverers : List ℕ) : Type 0 where
  pub places : length discoverers ≡ number_places
  pub at : (p : ℕ) → 1 ≤ p → p ≤ sent_most → known (get_or discoverers p 0) ≡ discoverer p l

-- the last discontinuity of the table at a position from 1 to p, 0 if there is none
unfoldable pub last_to : List ℕ → ℕ → ℕ
last_to discoverers zero = 0
last_to discoverers (suc p) = cond (eqb (get_or discoverers (suc p) 0) 0) (last_to discoverers p) (suc p)

-- a position that was found, or none
abbrev pub found : Found ℕ → Option ℕ
found None = none
found (Some p) = some p

-- the number of first arrivals after a record, which has this position, if any, and comes after `count` first arrivals
abbrev pub count_after : (count : ℕ) (position : Found ℕ) → ℕ
count_after count None = count
count_after count (Some p) = p

-- `position` is that of record i + 1, after `count` first arrivals: none for a duplicate, else the next; it is an index of a table by
-- position
pub record PositionAt (d : Decoded) (i count : ℕ) (position : Found ℕ) : Type 0 where
  pub is : found position ≡ position_of (answer_at d i)
  pub next : IfSome position (λ p. (p ≡ count + 1) × (p ≤ sent_most))
  pub after : count_after count position ≡ length (firsts (before d (i + 1)))

-- ---- calls for one record

-- what the call for an answer returns: the answer
abbrev pub answered : Answer → RecordAnswer
answered a = record { refusal = 0; answer = a }

-- or a refusal
abbrev pub unanswered : ℕ → RecordAnswer
unanswered r = record { refusal = r; answer = Answer.InOrder (record { position = 0; jump = 0 }) }
