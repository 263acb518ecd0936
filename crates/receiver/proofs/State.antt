-- The state of a receiver made for k packets, as a function of the account and of the state of its jumps, h. Fresh, it is that of the
-- empty account with no jumps, by computation. Assumes nothing.
use Prim.Native.Nat.{ℕ}
use mathlib.Core.Path.{◌≡◌, refl}
use mathlib.Core.List.{List, [], flatten}
use lib.ListN.{length}
use Rattle.rfc4737.specs.declared.Arrival.{Arrival}
use Rattle.rfc4737.specs.Arrivals.{firsts, each, each_after, count}
use Rattle.rfc4737.specs.Order.{next_exp}
use Rattle.rfc4737.specs.Answer.{answers}
use Rattle.rfc4737.specs.Times.{greatest_time}
use Rattle.rfc4737.specs.Runs.{is_duplicate, is_in_order_answer, runs}
use Rattle.receiver.specs.declared.Receiver.{Receiver}
use Rattle.receiver.specs.Kept.{Held}
use Rattle.receiver.specs.Step.{fresh_stream, made_for}
use Rattle.receiver.specs.Account.{answers_in}
use Rattle.receiver.proofs.Marks.{marks_of}
use Rattle.receiver.proofs.HeldJumps.{none_held}

-- what a receiver made for K holds, of the account and of its jumps
unfoldable pub state_with : ℕ → List Arrival → Held → Receiver
state_with k account h =
    record {
      stream =
          record {
            sent = k;
            arrived = length (firsts account);
            duplicates = count is_duplicate (answers_in account);
            inorder = count is_in_order_answer (answers_in account);
            next = next_exp (firsts account);
            kept = h.kept;
            greatest = greatest_time account;
            runs = runs (answers_in account);
            dropped = h.dropped;
          };
      marks = marks_of (firsts account);
      places = h.places;
    }

-- fresh, of the empty account and no jump
pub state-fresh : (k : ℕ) → made_for k ≡ state_with k [] none_held
unfolding state_with made_for fresh_stream firsts count answers_in answers each each_after next_exp greatest_time marks_of runs none_held flatten
state-fresh k = refl
