-- A reordered packet over an account, of which the jumps are split into those dropped, ds, and those kept, ws (`search-late`): its
-- discontinuity is a jump, so there is a kept one; jumps rise, so the window lemma says by the packet's number s whether the discontinuity
-- is dropped or kept, and what the search among the kept finds. The receiver's split is at the last 64 (`split-window`), of which there is
-- one where there is a jump. Assumes nothing.
use Prim.Native.Nat.{ℕ, ◌-◌, ◌≤◌, ◌<◌}
use mathlib.Core.Path.{◌≡◌, refl, sym, ap, subst, ◌∙◌}
use mathlib.Core.Bool.{false}
use mathlib.Core.List.{List, [], ◌∷◌, ◌++◌, Memᴰ}
use mathlib.Core.Option.{some}
use native.Mathlib.Omega.{arith}
use lib.ListN.{length, take, length-drop, take-append-drop}
use borrow.Author.Tests.{lt-leb}
use Rattle.rfc4737.specs.declared.Arrival.{Arrival}
use Rattle.rfc4737.specs.Arrivals.{has, firsts}
use Rattle.rfc4737.specs.Order.{FirstArrival, next_exp, is_in_order, jumps}
use Rattle.rfc4737.specs.Extent.{discontinuity}
use Rattle.rfc4737.proofs.Lists.{All, Ordered, all_right}
use Rattle.rfc4737.proofs.Arrivals.{has-firsts}
use Rattle.rfc4737.proofs.Jumps.{Rises, Within, DiscontinuityJump, reordered-discontinuity, jumps-within, jumps-rise}
use Rattle.receiver.specs.Limits.{window_places}
use Rattle.receiver.specs.Account.{window_in}
use Rattle.receiver.proofs.Window.{last_number, IsDropped, IsKept, discontinuity-before-window, discontinuity-in-window}

-- the account's jumps before the window
unfoldable pub dropped_in : List Arrival → List FirstArrival
dropped_in account = take (length (jumps (firsts account)) - window_places) (jumps (firsts account))

-- a list with an element is not empty
member-length : {p : FirstArrival} {l : List FirstArrival} → Memᴰ p l → 1 ≤ length l
member-length (Memᴰ.head e) = omega arith
member-length (Memᴰ.tail m) = omega arith

-- the jumps of an account as those dropped and those kept, of which there is one where there is a jump
pub record Split (account : List Arrival) (ds ws : List FirstArrival) : Type 0 where
  pub parts : ds ++ ws ≡ jumps (firsts account)
  pub not-empty : 1 ≤ length (jumps (firsts account)) → 1 ≤ length ws

-- the window splits them
pub split-window : (account : List Arrival) → Split account (dropped_in account) (window_in account)
unfolding dropped_in window_in
split-window account =
    record {
      parts = take-append-drop (length (jumps (firsts account)) - window_places) (jumps (firsts account));
      not-empty = λ h. simp length-drop (omega arith);
    }

-- the discontinuity of a packet s, the window's oldest jump, and what the search in the window finds
pub record WindowSearch (account : List Arrival) (ds ws : List FirstArrival) (s : ℕ) : Type 0 where
  pub at : FirstArrival
  pub is : discontinuity (firsts account) s ≡ some at
  pub oldest : FirstArrival
  pub later : List FirstArrival
  pub window : ws ≡ oldest ∷ later
  pub high : oldest.position ≤ length (firsts account)
  pub dropped : s < last_number ds → IsDropped s ws oldest at
  pub kept : last_number ds ≤ s → IsKept s ws at

-- of a reordered packet
pub search-late : (account : List Arrival) (ds ws : List FirstArrival)
    → Split account ds ws
    → (s : ℕ)
    → 1 ≤ s
    → has s account ≡ false
    → s < next_exp (firsts account)
    → WindowSearch account ds ws s
unfolding is_in_order
search-late account ds ws sp s low new late = go ws refl
  where
    found : DiscontinuityJump s (firsts account)
    found = reordered-discontinuity s low (firsts account) (has-firsts s account ∙ new) (lt-leb (next_exp (firsts account)) s late)

    go : (vs : List FirstArrival) → ws ≡ vs → WindowSearch account ds ws s
    go [] e = absurd (omega (arith, sp.not-empty (member-length found.jump), ap length e))
    go (o ∷ later) e =
        let parts : jumps (firsts account) ≡ ds ++ (o ∷ later) =
        sym sp.parts ∙ ap (λ (l : List FirstArrival). ds ++ l) e in
        let rise = subst (Ordered Rises) parts (jumps-rise (firsts account)) in
        let first = rw parts at found.first in
        let inside =
        all_right (Within (firsts account)) ds (o ∷ later) (subst (All (Within (firsts account))) parts (jumps-within (firsts account))) in
        record {
          at = found.at;
          is = found.is;
          oldest = o;
          later = later;
          window = e;
          high = inside.0.position-high;
          dropped = λ h. rw e (discontinuity-before-window s ds o later rise found.at first h);
          kept = λ h. rw e (discontinuity-in-window s ds o later rise found.at first h);
        }
