-- The counts of a sample and its runs of in-order packets (RFC 4737, section 4.6), over the answers. Assumes nothing.
use Rattle.std.specs.Prelude.{ℕ, ◌+◌, ◌*◌, Bool, true, false, not}
use mathlib.Core.List.{List, foldl}
use Rattle.rfc4737.specs.declared.Answer.{Answer}
use Rattle.rfc4737.specs.declared.Answer.TheVariants.{Duplicate, InOrder, Reordered}
use Rattle.rfc4737.specs.declared.Runs.{Runs}
use Rattle.rfc4737.specs.declared.Counts.{Counts}
use Rattle.rfc4737.specs.Arrivals.{count}

-- the limit of the sum of squares in a fit receiver state: 4,096 squared. No sum of 4,096 arrivals is greater
abbrev pub squares_most : ℕ
squares_most = 16777216

abbrev pub is_duplicate : Answer → Bool
is_duplicate (Duplicate d) = true
is_duplicate (InOrder d) = false
is_duplicate (Reordered d) = false

abbrev pub is_in_order_answer : Answer → Bool
is_in_order_answer (Duplicate d) = false
is_in_order_answer (InOrder d) = true
is_in_order_answer (Reordered d) = false

abbrev pub is_reordered : Answer → Bool
is_reordered (Duplicate d) = false
is_reordered (InOrder d) = false
is_reordered (Reordered d) = true

-- L, the number of first arrivals: of answers that are no duplicates
unfoldable pub arrived : List Answer → ℕ
arrived l = count (λ (a : Answer). not (is_duplicate a)) l

-- an in-order packet lengthens the open run by 1. The open run, a term of the scope, is the RFC's run that no reordered
-- packet has ended yet.
unfoldable pub lengthened : Runs → Runs
lengthened r = record { closed = r.closed; squares = r.squares; current = r.current + 1 }

-- a reordered packet closes the open run, whatever its length
unfoldable pub ended : Runs → Runs
ended r = record { closed = r.closed + 1; squares = r.squares + r.current * r.current; current = 0 }

-- the runs after the next answer; a duplicate changes nothing
unfoldable pub runs_after : Runs → Answer → Runs
runs_after r (Duplicate d) = r
runs_after r (InOrder d) = lengthened r
runs_after r (Reordered d) = ended r

-- the runs of a sample; the run still open at its end is in neither the closed runs nor the squares
unfoldable pub runs : List Answer → Runs
runs l = foldl runs_after (record { closed = 0; squares = 0; current = 0 }) l

-- the counts of a sample
unfoldable pub counts : List Answer → Counts
counts l =
    record {
      arrived = arrived l;
      reordered = count is_reordered l;
      duplicates = count is_duplicate l;
      inorder = count is_in_order_answer l;
      runs = runs l;
    }
