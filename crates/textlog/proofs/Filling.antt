-- A loop that fills two lists with the arrivals of a log, which has been judged: after i lines, which end at offset `at`, the lists hold
-- the values of the first i arrivals; those left are those of the lines from there on, of which none is refused (`Filled`). While lines
-- are left no malformed line stands there (`none-bad`), the full number m of a line is at most K (`small-number`), and its values are
-- stored at i (`filled_next`); after the last line the lists are filled (`filled-done`). Here n, τ and end are the number, the time and the
-- end of the line that is read; numbers₀ and times₀ are the lists where the loop begins, greatest, numbers and times are as at its head,
-- with ' after the turn. Assumes nothing.
use Prim.Native.Nat.{ℕ, ◌+◌, ◌≤◌, ◌<◌, max}
use native.Mathlib.Omega.{arith}
use mathlib.Core.Bool.{Bool, true, false}
use mathlib.Core.Path.{◌≡◌, refl, sym, ap, ◌∙◌}
use mathlib.Core.List.{List, ◌∷◌, ◌++◌}
use borrow.Author.Tests.{ltb-true, ltb-false}
use lib.Dec.{ltb}
use lib.ListN.{length, get_or, take, drop, length-drop, drop_of_length-le}
use Rattle.std.specs.Prelude.{None}
use Rattle.octets.specs.Memory.{over}
use Rattle.rfc4737.specs.Judge.{sent_most, numbers_of, times_of}
use Rattle.rfc4737.specs.Times.{next_reference}
use Rattle.rfc4737.proofs.Judged.{one_split}
use Rattle.textlog.specs.Decode.{read, line_in, DecodedLine, arrived, decoded_lines, arrivals_of_lines, judge_lines}
use Rattle.textlog.specs.Numbers.{lines_by, arrivals_by}
use Rattle.textlog.specs.Private.{Fillable}
use Rattle.textlog.proofs.Lines.{line_read, line-unread}
use Rattle.textlog.proofs.Judging.{none_left}
use Rattle.textlog.proofs.PartFilled.{rest-begins, PartFilled, part_none, part-done, part-next}
use Rattle.textlog.proofs.Accepted.{FirstAccepted, first-accepted, none-malformed}
use Rattle.textlog.proofs.Turns.{lines-length, lines-first, lines_none, lines-bad, lines-next}

-- the lists after i lines, which end at the place `at`
pub record Filled (find : ℕ → ℕ → ℕ) (log numbers₀ times₀ : List ℕ) (greatest at i : ℕ) (numbers times : List ℕ) : Type 0 where
  pub k : ℕ
  pub reference : ℕ
  pub most : k ≤ sent_most
  pub small : greatest ≤ sent_most
  pub some : i ≤ length (lines_by find 0 (decoded_lines log))
  pub accepted : (judge_lines k i reference (lines_by find greatest (decoded_lines (drop at log)))).refusal ≡ 0
  pub rest : drop i (arrivals_by find log) ≡ arrivals_of_lines (lines_by find greatest (decoded_lines (drop at log)))
  pub part : PartFilled (arrivals_by find log) numbers₀ times₀ i numbers times

module _ (find : ℕ → ℕ → ℕ) (log : List ℕ) (arrivals : ℕ) (numbers₀ times₀ : List ℕ) (room : Fillable find log arrivals numbers₀ times₀) where
  pub filled_none : Filled find log numbers₀ times₀ 0 0 0 numbers₀ times₀
  filled_none =
      record {
        k = room.k;
        reference = 0;
        most = room.most;
        small = omega arith;
        some = omega arith;
        accepted = room.accepted;
        rest = refl;
        part = part_none (arrivals_by find log) numbers₀ times₀;
      }

  many : length (arrivals_by find log) ≡ length (lines_by find 0 (decoded_lines log))
  many = lines-length (lines_by find 0 (decoded_lines log))

  module _ (greatest at i : ℕ) (numbers times : List ℕ) (f : Filled find log numbers₀ times₀ greatest at i numbers times) where
    -- while lines are left, the log goes on
    goes-on : i < arrivals → (b : Bool) → ltb at (length log) ≡ b → at < length log
    unfolding arrivals_of_lines
    goes-on h true e = ltb-true at (length log) e
    goes-on h false e =
        let n = f.rest ∙ ap arrivals_of_lines (lines_none find greatest (none_left log at (ltb-false at (length log) e))) in
        absurd (omega (arith, many, room.many, ap length n, length-drop i (arrivals_by find log)))

    -- and no malformed line stands there
    pub none-bad : i < arrivals → line_in at (drop at log) ≡ None → ⊥
    none-bad h e =
        let b = lines-bad find greatest (line-unread log at (goes-on h (ltb at (length log)) refl) e).lead in
        none-malformed f.k i f.reference _ (ap (λ (ds : List DecodedLine). (judge_lines f.k i f.reference ds).refusal) (sym b)
        ∙ f.accepted)

    -- no line is left
    pub filled-done : arrivals ≤ i
        → (numbers ≡ over (numbers_of (arrivals_by find log)) numbers₀) × (times ≡ over (times_of (arrivals_by find log)) times₀)
    filled-done h = part-done _ _ _ _ _ _ f.part (drop_of_length-le (arrivals_by find log) (omega (arith, many, room.many)))

    module _ (n τ end : ℕ) (e : line_in at (drop at log) ≡ read n τ end) (m : ℕ) (q : m ≡ find greatest n) where
      -- a line is read: the first of those left, with its number
      left : lines_by find greatest (decoded_lines (drop at log))
          ≡ arrived (record { number = m; time = τ }) ∷ lines_by find (max greatest m) (decoded_lines (drop end log))
      left = lines-next find greatest (record { number = n; time = τ }) (decoded_lines (drop end log)) (line_read log at e).lead q

      -- its arrival is the next
      here : drop i (arrivals_by find log)
          ≡ record { number = m; time = τ } ∷ arrivals_of_lines (lines_by find (max greatest m) (decoded_lines (drop end log)))
      here =
          f.rest ∙ ap arrivals_of_lines left
          ∙ lines-first (arrived (record { number = m; time = τ })) (lines_by find (max greatest m) (decoded_lines (drop end log)))

      pub within-lines : i < length (lines_by find 0 (decoded_lines log))
      within-lines = omega (arith, many, (rest-begins (arrivals_by find log) i (record { number = 0; time = 0 }) _ _ here).0)

      -- it is not refused
      passed : FirstAccepted f.k i f.reference (record { number = m; time = τ })
          (lines_by find (max greatest m) (decoded_lines (drop end log)))
      passed =
          first-accepted f.k i f.reference (record { number = m; time = τ })
          (lines_by find (max greatest m) (decoded_lines (drop end log)))
          (ap (λ (ds : List DecodedLine). (judge_lines f.k i f.reference ds).refusal) (sym left) ∙ f.accepted)

      -- so its number is small
      pub small-number : m ≤ sent_most
      small-number =
          let o = one_split f.k f.reference (record { number = m; time = τ }) passed.one in
          omega (arith, o.0.1, f.most)

      -- its values are filled in
      pub filled_next : (greatest' : ℕ) → greatest' ≡ max greatest m → {numbers' times' : List ℕ}
          → ((xs : List ℕ) → m ≡ get_or xs i 0 → i < length xs → numbers ≡ take i xs ++ drop i numbers₀ → numbers' ≡ take (i + 1) xs
          ++ drop (i + 1) numbers₀)
          → ((xs : List ℕ) → τ ≡ get_or xs i 0 → i < length xs → times ≡ take i xs ++ drop i times₀ → times' ≡ take (i + 1) xs
          ++ drop (i + 1) times₀)
          → Filled find log numbers₀ times₀ greatest' end (i + 1) numbers' times'
      filled_next greatest' g fn ft =
          record {
            k = f.k;
            reference = next_reference f.reference τ;
            most = f.most;
            small = omega (arith, g, small-number, f.small);
            some = omega (arith, within-lines);
            accepted =
                ap (λ (x : ℕ). (judge_lines f.k (i + 1) (next_reference f.reference τ)
                (lines_by find x (decoded_lines (drop end log)))).refusal) g
                ∙ passed.rest;
            rest =
                (rest-begins (arrivals_by find log) i (record { number = 0; time = 0 }) _ _ here).2
                ∙ ap (λ (x : ℕ). arrivals_of_lines (lines_by find x (decoded_lines (drop end log)))) (sym g);
            part = part-next _ _ _ _ _ _ f.part (record { number = m; time = τ }) _ here fn ft;
          }
