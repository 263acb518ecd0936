-- The limits of an account: its arrivals are of the packets 1 to K, at most 4,096 (`account-limits`, by induction on the arrivals fed).
-- An arrival that is added meets none of 11, 6 and 7, so there is room for it, and its number is from 1 to K (`accepted-arrival`). k is
-- K, a the arrival. Assumes nothing.
use Prim.Native.Nat.{ℕ, ◌+◌, ◌≤◌}
use mathlib.Core.Path.{◌≡◌, refl}
use mathlib.Core.Bool.{Bool, true, false, cond}
use mathlib.Core.List.{List, [], ◌∷◌, ◌++◌}
use native.Mathlib.Omega.{arith}
use lib.Dec.{eqb, lit<}
use lib.ListN.{length, length-append}
use borrow.Author.Tests.{eqb-true, eqb-false}
use Rattle.rfc4737.specs.declared.Arrival.{Arrival}
use Rattle.rfc4737.specs.Times.{greatest_time}
use Rattle.rfc4737.specs.Refusals.{refusal_if, state_full}
use Rattle.rfc4737.specs.Judge.{arrivals_most, judge_one}
use Rattle.rfc4737.proofs.Lists.{snoc-ind, All, all_append}
use Rattle.rfc4737.proofs.Arrivals.{fold_more}
use Rattle.rfc4737.proofs.Packets.{OfPackets}
use Rattle.rfc4737.proofs.Due.{first-none, case-none}
use Rattle.rfc4737.proofs.Judged.{one_split}
use Rattle.receiver.specs.Account.{account_refusal, account_with, account_of}

-- the facts of an arrival that is not refused
pub record AcceptedArrival (k : ℕ) (account : List Arrival) (a : Arrival) : Type 0 where
  pub room : length account ≡ arrivals_most → ⊥
  pub numbered : OfPackets k a

-- an arrival that is not refused has them
pub accepted-arrival : (k : ℕ) (account : List Arrival) (a : Arrival) → account_refusal k account a ≡ 0 → AcceptedArrival k account a
unfolding account_refusal
accepted-arrival k account a e =
    let f = first-none (refusal_if (eqb (length account) arrivals_most) state_full) (judge_one k (greatest_time account) a ∷ []) e in
    let w = (one_split k (greatest_time account) a (first-none (judge_one k (greatest_time account) a) [] f.1).0).0 in
    record {
      room = eqb-false _ _ (case-none (eqb (length account) arrivals_most) state_full (lit< tt) f.0);
      numbered = record { low = w.0; high = w.1 };
    }

-- the account's arrivals are of the packets 1 to K, at most 4,096
pub record AccountLimits (k : ℕ) (account : List Arrival) : Type 0 where
  pub numbered : All (OfPackets k) account
  pub short : length account ≤ arrivals_most

-- an accepted arrival keeps it so
limits-more : (k : ℕ) (account : List Arrival) (a : Arrival) → AccountLimits k account → AcceptedArrival k account a
    → AccountLimits k (account ++ (a ∷ []))
limits-more k account a h g =
    let l : length (account ++ (a ∷ [])) ≡ length account + 1 = length-append account (a ∷ []) in
    let room = g.room in
    record {
      numbered = all_append (OfPackets k) account (a ∷ []) h.numbered (g.numbered, tt);
      short = omega arith;
    }

-- the empty account is so
pub limits-none : (k : ℕ) → AccountLimits k []
limits-none k = record { numbered = tt; short = omega arith }

-- any arrival keeps it so
pub limits-with : (k : ℕ) (account : List Arrival) (a : Arrival) → AccountLimits k account → AccountLimits k (account_with k account a)
unfolding account_with
limits-with k account a h = go (eqb (account_refusal k account a) 0) refl
  where
    go : (t : Bool) → eqb (account_refusal k account a) 0 ≡ t → AccountLimits k (cond t (account ++ (a ∷ [])) account)
    go true e = limits-more k account a h (accepted-arrival k account a (eqb-true _ _ e))
    go false e = h

-- every account is so
pub account-limits : (k : ℕ) (fed : List Arrival) → AccountLimits k (account_of k fed)
unfolding account_of
account-limits k = snoc-ind (λ (fed : List Arrival). AccountLimits k (account_of k fed)) more (limits-none k)
  where
    more : (fed : List Arrival) (a : Arrival) → AccountLimits k (account_of k fed) → AccountLimits k (account_of k (fed ++ (a ∷ [])))
    more fed a h = rw fold_more (limits-with k (account_of k fed) a h)
