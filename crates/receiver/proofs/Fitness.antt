-- Every state of an account is fit (`state-fit`): each of its numbers is a count over at most 4,096 answers, and its kept jumps are the
-- last of the account's jumps, which stand in 1 to L, have numbers of 1 to K and times up to the greatest (`jumps-fit`). The dropped
-- number is that of one of the others, or 0 (`last-most`).
-- Here k is K, ds and ws are the dropped and the kept jumps, and held is the state of the jumps. Assumes nothing.
use Prim.Native.Nat.{ℕ, ◌+◌, ◌≤◌}
use mathlib.Core.Path.{◌≡◌, refl}
use mathlib.Core.Bool.{true}
use mathlib.Core.List.{List, [], ◌∷◌, ◌++◌, map}
use native.Mathlib.Omega.{arith}
use lib.ListN.{length}
use Rattle.rfc4737.specs.declared.Arrival.{Arrival}
use Rattle.rfc4737.specs.Arrivals.{firsts, count}
use Rattle.rfc4737.specs.Order.{FirstArrival, next_exp, jumps}
use Rattle.rfc4737.specs.Times.{greatest_time}
use Rattle.rfc4737.specs.Answer.{answers}
use Rattle.rfc4737.specs.Runs.{is_duplicate, arrived}
use Rattle.rfc4737.proofs.Lists.{snoc-ind, All, all_left, all_right, all-weaken, all_both}
use Rattle.rfc4737.proofs.Folds.{next-positive, length-answers, arrived-answers, duplicate-or-first, in-order-or-reordered, closed-reordered, current-le, squares-le}
use Rattle.rfc4737.proofs.Times.{until-greatest}
use Rattle.rfc4737.proofs.Jumps.{Within, jumps-within, jumps-until}
use Rattle.rfc4737.proofs.Packets.{all_firsts, next-high, firsts-most}
use Rattle.rfc4737.specs.Judge.{sent_most, arrivals_most}
use Rattle.receiver.specs.Limits.{window_places}
use Rattle.receiver.specs.declared.Stream.{Stream}
use Rattle.receiver.specs.Kept.{Held}
use Rattle.receiver.specs.Fit.{every, jump_fit, places_fit, fit}
use Rattle.receiver.specs.Private.{StreamFit, JumpFit}
use Rattle.receiver.specs.Account.{answers_in}
use Rattle.receiver.proofs.Fits.{both, stream-pass, jump_passes, places-pass}
use Rattle.receiver.proofs.Window.{last_number, last_more}
use Rattle.receiver.proofs.HeldJumps.{Holds, holds-count}
use Rattle.receiver.proofs.Accepted.{AccountLimits}
use Rattle.receiver.proofs.State.{state_with}
use Rattle.receiver.proofs.ReorderedInWindow.{Split}

-- fit kept jumps pass the test
jumps-pass : (s : Stream) (l : List FirstArrival) → All (JumpFit s) l → every (map (jump_fit s) l) ≡ true
unfolding every
jumps-pass s [] h = refl
jumps-pass s (p ∷ l) h = both (jump_passes s p h.0) (jumps-pass s l h.1)

-- the last number is at most k where all are
last-most : (k : ℕ) (l : List FirstArrival) → All (λ (p : FirstArrival). p.number ≤ k) l → last_number l ≤ k
unfolding last_number
last-most k = snoc-ind (λ (l : List FirstArrival). All (λ (p : FirstArrival). p.number ≤ k) l → last_number l ≤ k) more (λ h. omega arith)
  where
    more : (l : List FirstArrival) (p : FirstArrival)
        → (All (λ (p : FirstArrival). p.number ≤ k) l → last_number l ≤ k)
        → All (λ (p : FirstArrival). p.number ≤ k) (l ++ (p ∷ []))
        → last_number (l ++ (p ∷ [])) ≤ k
    more l p h g = rw last_more (all_right (λ (p : FirstArrival). p.number ≤ k) l (p ∷ []) g).0

-- L over the account's answers
pub arrived-in : (account : List Arrival) → arrived (answers_in account) ≡ length (firsts account)
unfolding answers_in
arrived-in account = arrived-answers (λ _. 0) account

-- first arrivals and duplicates are all arrivals of the account
pub accepted-count : (account : List Arrival) → length (firsts account) + count is_duplicate (answers_in account) ≡ length account
unfolding answers_in
accepted-count account =
    omega
    (arith, duplicate-or-first (answers (λ _. 0) account), arrived-answers (λ _. 0) account, length-answers (λ _. 0) account)

module _ (k : ℕ) (low : 1 ≤ k) (high : k ≤ sent_most) (account : List Arrival) (h : AccountLimits k account)
    (ds ws : List FirstArrival) (sp : Split account ds ws) (held : Held) (o : Holds ds ws held) (few : length ws ≤ window_places) where
  -- the numbers of its stream
  abbrev stream : Stream
  stream = (state_with k account held).stream

  stream-fit : StreamFit stream
  unfolding state_with
  stream-fit =
      let l : length (firsts account) ≤ k = firsts-most k account h.numbered in
      let s : length (firsts account) + count is_duplicate (answers_in account) ≡ length account = accepted-count account in
      let t : length account ≤ arrivals_most = h.short in
      let a : arrived (answers_in account) ≡ length (firsts account) = arrived-in account in
      let i = in-order-or-reordered (answers_in account) in
      let c = current-le (answers_in account) in
      let d = closed-reordered (answers_in account) in
      let m : arrived (answers_in account) ≤ sent_most = omega arith in
      let q = squares-le sent_most (answers_in account) m in
      record {
        sent-low = low;
        sent-high = high;
        arrived-high = l;
        accepted-high = omega arith;
        inorder-high = omega arith;
        current-high = c;
        closed-high = omega arith;
        squares-high = omega arith;
        next_low = next-positive (firsts account);
        next-high = next-high k (firsts account) (all_firsts _ account h.numbered);
      }

  jumps-fit : All (JumpFit stream) (jumps (firsts account))
  unfolding state_with
  jumps-fit =
      let n : next_exp (firsts account) ≤ k + 1 = next-high k (firsts account) (all_firsts _ account h.numbered) in
      all_both
      (λ (p : FirstArrival) (w : Within (firsts account) p) (t : p.time ≤ greatest_time account).
      record {
        position-low = w.position-low;
        position-high = w.position-high;
        number-low = w.number-low;
        number-high = omega arith;
        time-high = t;
      })
      (jumps (firsts account)) (jumps-within (firsts account))
      (jumps-until (greatest_time account) (firsts account) (all_firsts _ account (until-greatest account)))

  places-fit : places_fit stream held.places ≡ true
  unfolding state_with
  places-fit =
      let c : held.kept ≡ length ws = holds-count ds ws held o in
      let parts : All (JumpFit stream) (ds ++ ws) = rw sp.parts jumps-fit in
      let late = all_right _ ds ws parts in
      let early = all_left _ ds ws parts in
      let d : last_number ds ≤ k = last-most k ds (all-weaken (λ (p : FirstArrival) (f : JumpFit stream p). f.number-high) ds early) in
      places-pass stream held.places
      (record {
        kept_high = omega arith;
        jumps-fit = rw o.kept (jumps-pass stream ws late);
        dropped-high = rw o.dropped d;
      })

  pub state-fit : fit (state_with k account held) ≡ true
  unfolding fit state_with
  state-fit = both (stream-pass stream stream-fit) places-fit
