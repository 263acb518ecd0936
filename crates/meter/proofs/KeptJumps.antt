-- The jumps that a stream keeps under a new one, by the rule for the shared places. If the new jump takes a place, the stream keeps fewer
-- than 48 and a place is free, so both limits still hold (`takes`). If not, the stream keeps 16 or more, 48 or all that its neighbour
-- leaves (`takes_none`): there is an oldest jump to drop, and as many are kept as before. So a stream that has dropped a jump keeps 16 or
-- more. In both cases the places hold the kept ones by the laws of HeldJumps (`kept-one`); an arrival is one new jump or none
-- (`kept-arrival`). Here ds and ws are the jumps dropped and kept, j is what is held of them, and with a prime they are those after;
-- beside is how many the neighbour keeps, p the new jump, and t says whether it takes a place. Assumes nothing.
use Prim.Native.Nat.{ℕ, suc, ◌+◌, ◌-◌, ◌≤◌, ◌<◌}
use mathlib.Core.Path.{◌≡◌, refl, sym, ap, ◌∙◌}
use mathlib.Core.Bool.{Bool, true, false, ◌&&◌}
use mathlib.Core.List.{List, [], ◌∷◌, ◌++◌, foldl, append-nil, append_assoc}
use native.Mathlib.Omega.{arith}
use lib.Dec.{ltb}
use lib.ListN.{length, drop, length-append}
use borrow.Author.Tests.{ltb-true, ltb-false}
use Rattle.rfc4737.specs.declared.Arrival.{Arrival}
use Rattle.rfc4737.specs.Order.{FirstArrival}
use Rattle.receiver.specs.Limits.{window_places}
use Rattle.receiver.specs.Kept.{place_at, Held, kept_with, with_jump}
use Rattle.receiver.specs.Account.{jump_in}
use Rattle.receiver.proofs.Agrees.{jump-cases}
use Rattle.receiver.proofs.Fits.{and-true}
use Rattle.receiver.proofs.HeldJumps.{Holds, holds-appended, holds-shifted, jump-frame}
use Rattle.meter.specs.Streams.{most_kept, free_beside, takes_place}

-- a test of two parts that fails
and-false : (a b : Bool) → a && b ≡ false → (a ≡ true → b ≡ false)
and-false true b e h = e
and-false false b e h = let z : ◌≡◌ {A = ℕ} 0 1 = cc in absurd (omega arith)

-- what holds where a jump takes a place
pub takes : (own beside : ℕ) → takes_place own (free_beside own beside) ≡ true → (own < most_kept) × (own + beside < window_places)
takes own beside e =
    let a = and-true _ _ e in
    let l : own < most_kept = ltb-true _ _ a.0 in
    let m : 0 < window_places - (own + beside) = ltb-true _ _ a.1 in
    (l, omega arith)

-- and where it takes none, beside a neighbour that keeps at most 48
takes_none : (own beside : ℕ) → beside ≤ most_kept → takes_place own (free_beside own beside) ≡ false → 16 ≤ own
takes_none own beside h e = go (ltb own most_kept) refl
  where
    go : (t : Bool) → ltb own most_kept ≡ t → 16 ≤ own
    go true q = let m : window_places - (own + beside) ≤ 0 = ltb-false _ _ (and-false _ _ e q) in omega arith
    go false q = let m : most_kept ≤ own = ltb-false _ _ q in omega arith

-- what is kept of some jumps after new ones: those dropped and those kept are all of them, the places hold them, and no place
-- after the kept ones is written
pub record KeptOf (ds ws : List FirstArrival) (j : Held) (beside : ℕ) (new : List FirstArrival) (ws' : List FirstArrival)
    (j' : Held) : Type 0 where
  pub dropped : List FirstArrival
  pub parts : dropped ++ ws' ≡ (ds ++ ws) ++ new
  pub holds : Holds dropped ws' j'
  pub most : length ws' ≤ most_kept
  pub together : length ws' + beside ≤ window_places
  pub least : 1 ≤ length dropped → 16 ≤ length ws'
  pub not-empty : 1 ≤ length ((ds ++ ws) ++ new) → 1 ≤ length ws'
  pub frame : (k : ℕ) → length ws' ≤ k → place_at j'.places k ≡ place_at j.places k

-- as the rule for the shared places keeps them
abbrev pub AfterJumps : List FirstArrival → List FirstArrival → Held → ℕ → List FirstArrival → Type 0
AfterJumps ds ws j beside new =
    let room : Bool = takes_place (length ws) (free_beside (length ws) beside) in
    KeptOf ds ws j beside new (foldl (kept_with room) ws new) (foldl (with_jump room) j new)

module _ (ds ws : List FirstArrival) (j : Held) (beside : ℕ)
    (h : Holds ds ws j)
    (most : length ws ≤ most_kept)
    (low : beside ≤ most_kept)
    (together : length ws + beside ≤ window_places)
    (least : 1 ≤ length ds → 16 ≤ length ws)
    (not-empty : 1 ≤ length (ds ++ ws) → 1 ≤ length ws) where
  kept-none : KeptOf ds ws j beside [] ws j
  kept-none =
      record {
        dropped = ds;
        parts = sym (append-nil (ds ++ ws));
        holds = h;
        most = most;
        together = together;
        least = least;
        not-empty = rw append-nil not-empty;
        frame = λ k l. refl;
      }

  kept-one : (p : FirstArrival) (t : Bool) → takes_place (length ws) (free_beside (length ws) beside) ≡ t
      → KeptOf ds ws j beside (p ∷ []) (kept_with t ws p) (with_jump t j p)
  unfolding kept_with
  kept-one p true e =
      let q = takes (length ws) beside e in
      let l : length (ws ++ (p ∷ [])) ≡ length ws + 1 = length-append ws (p ∷ []) in
      let a : length ws < most_kept = q.0 in
      let b : length ws + beside < window_places = q.1 in
      record {
        dropped = ds;
        parts = sym (append_assoc ds ws (p ∷ []));
        holds = holds-appended ds ws j p h (omega arith);
        most = omega arith;
        together = omega arith;
        least = λ n. let m : 16 ≤ length ws = least n in omega arith;
        not-empty = λ n. omega arith;
        frame = jump-frame true ds ws j p h;
      }
  kept-one p false e = go ws refl
    where
      go : (vs : List FirstArrival) → ws ≡ vs → KeptOf ds ws j beside (p ∷ []) (drop 1 ws ++ (p ∷ [])) (with_jump false j p)
      go [] v =
          let n : 16 ≤ length ws = takes_none (length ws) beside low e in
          let z : length ws ≡ 0 = ap length v in
          absurd (omega arith)
      go (o ∷ vs) v =
          let n : 16 ≤ length ws = takes_none (length ws) beside low e in
          let z : length ws ≡ suc (length vs) = ap length v in
          let l : length (vs ++ (p ∷ [])) ≡ length vs + 1 = length-append vs (p ∷ []) in
          let k : Holds ds (o ∷ vs) j = rw v at h in
          let r : length (drop 1 ws ++ (p ∷ [])) ≡ length vs + 1 = ap (λ (us : List FirstArrival). length (drop 1 us ++ (p ∷ []))) v ∙ l in
          record {
            dropped = ds ++ (o ∷ []);
            parts =
                rw v
                (append_assoc ds (o ∷ []) (vs ++ (p ∷ [])) ∙ sym (append_assoc ds (o ∷ vs) (p ∷ [])));
            holds = rw v (holds-shifted ds o vs j p k (omega arith));
            most = omega arith;
            together = omega arith;
            least = λ m. omega arith;
            not-empty = λ m. omega arith;
            frame = jump-frame false ds ws j p h;
          }

  -- under the jump that an arrival is, if it is one
  pub kept-arrival : (k : ℕ) (account : List Arrival) (a : Arrival) → AfterJumps ds ws j beside (jump_in k account a)
  kept-arrival k account a =
      jump-cases (AfterJumps ds ws j beside) kept-none
      (λ p. kept-one p (takes_place (length ws) (free_beside (length ws) beside)) refl) k account a
