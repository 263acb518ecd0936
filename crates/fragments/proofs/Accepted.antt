-- What holds for K and the lists if nothing is refused: `order_refusal ≡ 0` settles each test of the judge in turn, last the room in both
-- of the caller's lists (`accepted`). The arrivals have the numbers of the list of numbers, so what the judge says of the arrivals holds
-- for the list. ns, ts, ls, ms and os are the five lists, f and u the lists
-- for flags and for usable values. Assumes nothing.
use Prim.Native.Nat.{ℕ, ◌≤◌, ◌<◌}
use native.Mathlib.Omega.{arith}
use mathlib.Core.Bool.{Bool, true, not, ◌&&◌, ◌||◌}
use mathlib.Core.Path.{◌≡◌, sym}
use mathlib.Core.List.{List, [], ◌∷◌}
use borrow.Author.Tests.{eqb-true, not-false, ltb-false}
use lib.Dec.{ltb, eqb}
use lib.ListN.{length}
use Rattle.rfc4737.specs.Refusals.{refusal_if, sent_outside, many_arrivals, lists_differ, output_short}
use Rattle.rfc4737.specs.Judge.{judge_sent, judge_arrivals, sent_most, arrivals_most}
use Rattle.rfc4737.proofs.Due.{each_none, case-none, limit-none}
use Rattle.rfc4737.proofs.Tests.{neither}
use Rattle.fragments.specs.Pieces.{pieces_of}
use Rattle.fragments.specs.Judge.{judge_pieces}
use Rattle.fragments.specs.Calls.{same_lengths, order_refusal}
use Rattle.fragments.specs.Private.{Lists, NumbersWithin}
use Rattle.fragments.proofs.Laws.{both, pieces-length}
use Rattle.fragments.proofs.Judged.{numbered}
use Rattle.fragments.proofs.Numbers.{pieces-number}

pub same_lists : (ns ts ls ms os : List ℕ) → same_lengths (length ns) (length ts) (length ls) (length ms) (length os) ≡ true
    → Lists ns ts ls ms os
unfolding same_lengths
same_lists ns ts ls ms os e =
    let p =
    both (eqb (length ns) (length ts)) (eqb (length ns) (length ls) && (eqb (length ns) (length ms) && eqb (length ns) (length os))) e in
    let q = both (eqb (length ns) (length ls)) (eqb (length ns) (length ms) && eqb (length ns) (length os)) p.1 in
    let r = both (eqb (length ns) (length ms)) (eqb (length ns) (length os)) q.1 in (
      sym (eqb-true (length ns) (length ts) p.0),
      sym (eqb-true (length ns) (length ls) q.0),
      sym (eqb-true (length ns) (length ms) r.0),
      sym (eqb-true (length ns) (length os) r.1),
    )

pub record AcceptedPieces (k : ℕ) (ns ts ls ms os : List ℕ) (f u : ℕ) : Type 0 where
  pub sent : k ≤ sent_most
  pub lists : Lists ns ts ls ms os
  pub numbers : NumbersWithin k ns
  pub many : length ns ≤ arrivals_most
  pub flag_room : length ns ≤ f
  pub used_room : length ns ≤ u

pub accepted : (k : ℕ) (ns ts ls ms os : List ℕ) (f u : ℕ) → order_refusal k ns ts ls ms os f u ≡ 0 → AcceptedPieces k ns ts ls ms os f u
unfolding order_refusal
accepted k ns ts ls ms os f u e =
    let same : Bool = same_lengths (length ns) (length ts) (length ls) (length ms) (length os) in
    let short : Bool = ltb f (length ns) || ltb u (length ns) in
    let r =
    each_none (judge_sent k ∷ judge_arrivals (length ns) ∷ refusal_if (not same) lists_differ ∷ judge_pieces k (pieces_of ns ts ls ms os)
    ∷ refusal_if short output_short ∷ []) e in
    let sent = limit-none 1 sent_most k sent_outside (omega arith) (r 0) in
    let many = limit-none 0 arrivals_most (length ns) many_arrivals (omega arith) (r 1) in
    let rooms = neither (ltb f (length ns)) (ltb u (length ns)) (case-none short output_short (omega arith) (r 4)) in
    let len = pieces-length ns ts ls ms os in
    record {
      sent = sent.1;
      lists = same_lists ns ts ls ms os (not-false same (case-none (not same) lists_differ (omega arith) (r 2)));
      numbers = record {
        at = λ (j : ℕ) (h : j < length ns).
            let m : j < length (pieces_of ns ts ls ms os) = omega arith in
            rw (pieces-number ns ts ls ms os j m) at (numbered k (pieces_of ns ts ls ms os) (r 3) j m);
      };
      many = many.1;
      flag_room = ltb-false f (length ns) rooms.0;
      used_room = ltb-false u (length ns) rooms.1;
    }
