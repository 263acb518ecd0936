-- The numbers found of a list. In the turn of a loop the number found from the greatest so far is the one at i (`found_here`, by
-- `turn_at`), and the greater of both is the greatest then (`greatest-next`). The list call ends in one of three ways, and in each the
-- first refusal that is due is known. What the contracts carry: a true number at its distance is a full number of its low bits, and there
-- is only one (`lists-true`); and lists that the sample's writer does not refuse are a fit sample, to which its file decodes
-- (`demand2-reads`). Here r is the range, k is K, g the greatest of the first i numbers found, n the one found at i, w a width.
-- Assumes nothing.
use Prim.Native.Nat.{ℕ, zero, suc, ◌+◌, ◌^◌, ◌≤◌, ◌<◌, max}
use native.Mathlib.Omega.{arith}
use mathlib.Core.Path.{◌≡◌, refl, sym, ap, ◌∙◌, subst}
use mathlib.Core.List.{List, [], ◌∷◌}
use borrow.Author.Tests.{lt-ltb, le-ltb}
use lib.Dec.{ltb}
use lib.ListN.{length, get_or, take}
use Rattle.octets.specs.Below.{Below}
use Rattle.octets.specs.Memory.{over}
use Rattle.rfc4737.specs.declared.Arrival.{Arrival}
use Rattle.rfc4737.specs.Judge.{arrivals_from, refusal_of_lists}
use Rattle.rfc4737.specs.Refusals.{refusal_if, output_short}
use Rattle.rfc4737.proofs.Arrivals.{fold-take}
use Rattle.rfc4737.proofs.Due.{first-due}
use Rattle.rfc4737.proofs.Pairs.{arrivals-get_or, times-back}
use Rattle.sample.specs.Format.{Sample}
use Rattle.sample.specs.Judge.{FitSample}
use Rattle.sample.specs.Calls.{sample_from}
use Rattle.sample.proofs.Exact.{label-fit, from-none, decode-file}
use Rattle.shortnumbers.specs.Number.{range_of, short_of, Near, number_found}
use Rattle.shortnumbers.specs.InTurn.{greatest_of}
use Rattle.shortnumbers.specs.Lists.{numbers_found, fill_refusal, FilledTo, TrueInLists, Demand2Reads, EveryList}
use Rattle.shortnumbers.proofs.Numbers.{Even, even-width, only, exact}
use Rattle.shortnumbers.proofs.InTurn.{turn-length, turn_at, turn-true}

-- one number for each short one
pub found-length : (r : ℕ) (shorts : List ℕ) → length (numbers_found r shorts) ≡ length shorts
found-length r shorts = turn-length greatest_of (number_found r) shorts

-- what stands past the last arrival
abbrev pub none : Arrival
none = record { number = 0; time = 0 }

-- ---- a loop over the short numbers: g is the greatest of the first i numbers found, and n is found from it at i

module _ (r : ℕ) (shorts : List ℕ) (g i n : ℕ) (lt : i < length shorts) (so_far : g ≡ greatest_of (take i (numbers_found r shorts)))
    (e : n ≡ number_found r g (get_or shorts i 0)) where
  -- it is the one at i
  pub found_here : n ≡ get_or (numbers_found r shorts) i 0
  found_here = e ∙ ap (λ (x : ℕ). number_found r x (get_or shorts i 0)) so_far ∙ sym (turn_at greatest_of (number_found r) shorts i 0 lt)

  -- and the greater of both is the greatest of the first i + 1
  pub greatest-next : (next : ℕ) → next ≡ max g n → next ≡ greatest_of (take (i + 1) (numbers_found r shorts))
  unfolding greatest_of
  greatest-next next m =
      let len = found-length r shorts in
      let b : i < length (numbers_found r shorts) = omega arith in
      m ∙ ap (λ (x : ℕ). max x n) so_far ∙ ap (max (greatest_of (take i (numbers_found r shorts)))) found_here
      ∙ sym (fold-take max 0 0 (numbers_found r shorts) i b)

  -- with its time it is the arrival at i
  pub arrival-here : (times : List ℕ) → length times ≡ length shorts
      → record { number = n; time = get_or times i 0 } ≡ get_or (arrivals_from (numbers_found r shorts) times) i none
  arrival-here times same =
      let len = found-length r shorts in
      ap (λ (x : ℕ). record { number = x; time = get_or times i 0 }) found_here
      ∙ arrivals-get_or (numbers_found r shorts) times i none (same ∙ sym len) (omega arith)

-- ---- the three ways in which the list call ends

module _ (r k : ℕ) (shorts times numbers : List ℕ) where
  -- something of K and the lists is refused
  pub filled-refused : (refusal : ℕ) → refusal ≡ refusal_of_lists k (numbers_found r shorts) times → (refusal ≡ 0 → ⊥)
      → FilledTo r k shorts times numbers refusal numbers
  unfolding fill_refusal
  filled-refused zero e n = absurd (n refl)
  filled-refused (suc x) e n =
      record {
        refusal = rw (sym e) (sym (first-due (suc x) (refusal_if (ltb (length numbers) (length shorts)) output_short ∷ []) (omega arith)));
        filled = refl;
      }

  -- the list is too short
  pub filled-short : refusal_of_lists k (numbers_found r shorts) times ≡ 0 → length numbers < length shorts
      → FilledTo r k shorts times numbers output_short numbers
  unfolding fill_refusal
  filled-short e h = record { refusal = rw (e, lt-ltb (length numbers) (length shorts) h); filled = refl }

  -- the list is filled
  pub filled-whole : (numbers' : List ℕ) → refusal_of_lists k (numbers_found r shorts) times ≡ 0 → length shorts ≤ length numbers
      → numbers' ≡ over (numbers_found r shorts) numbers → FilledTo r k shorts times numbers 0 numbers'
  unfolding fill_refusal
  filled-whole numbers' e h f = record { refusal = rw (e, le-ltb (length numbers) (length shorts) h); filled = f }

-- ---- what the contracts carry

-- true numbers are found
lists-true : (r : ℕ) → Even r → TrueInLists r
lists-true r range numbers keeps =
    turn-true greatest_of (number_found r) (short_of r) (Near r)
    (λ g n near. sym (only r range g (short_of r n) n (record { bits = refl; near = near }))) numbers keeps

-- lists that the sample's writer does not refuse are a sample to which its file decodes
demand2-reads : (r : ℕ) → Demand2Reads r
demand2-reads r shorts times label sizes bs bt e =
    let numbers : List ℕ = numbers_found r shorts in
    let s : Sample = sample_from label sizes numbers times in
    let f = label-fit label sizes numbers times e in
    let fit : FitSample s =
    record {
      judged = from-none label sizes numbers times e;
      sizes = bs;
      times = subst (Below (2 ^ 64)) (sym (times-back numbers times f.2.same)) bt;
    } in
    decode-file s fit

pub every-list : EveryList
every-list w h =
    record {
      exact = exact (range_of w) (even-width w h);
      finds = lists-true (range_of w) (even-width w h);
      demand2 = demand2-reads (range_of w);
    }
