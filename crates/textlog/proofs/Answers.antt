-- The result of an import, by cases of y, the judgement of the decoded lines. A refusal is returned, and the lists stay. If there is none,
-- 8 comes last: a list is too short, or both have room for every line, since there are as many arrivals as lines (`rooms`), and they are
-- filled. A log that is not refused has at most 4,096 lines, so lists of that length are never too short (`import-room`). Here ds is what
-- the lines decode to, z says that y has no refusal, r is a result; numbers' and times' are the lists after the call. Assumes nothing.
use Prim.Native.Nat.{ℕ, zero, suc, ◌≤◌}
use native.Mathlib.Omega.{arith}
use mathlib.Core.Bool.{Bool, true, false}
use mathlib.Core.Path.{◌≡◌, refl, sym, ap, ◌∙◌}
use mathlib.Core.List.{List, [], ◌∷◌}
use borrow.Author.Tests.{ltb-false, le-ltb}
use lib.Dec.{ltb}
use lib.ListN.{length}
use Rattle.octets.specs.Memory.{over}
use Rattle.rfc4737.specs.Judge.{arrivals_most, numbers_of, times_of}
use Rattle.rfc4737.specs.Refusals.{refusal_if, first_refusal, output_short}
use Rattle.rfc4737.proofs.Due.{first-due, first_next}
use Rattle.rfc4737.proofs.Tests.{neither}
use Rattle.sample.specs.Output.{if_none}
use Rattle.textlog.specs.Decode.{DecodedLine, arrivals_of_lines, judge_decoded}
use Rattle.textlog.specs.declared.LogJudgement.{LogJudgement}
use Rattle.textlog.specs.Calls.{log_lists_short, import_refusal, LinesImported}
use Rattle.textlog.specs.declared.LogImport.{LogImport}
use Rattle.textlog.proofs.Accepted.{accepted-decoded}
use Rattle.textlog.proofs.Turns.{lines-length}

-- ---- the importer

-- with a refusal that applies nothing is filled
refused-from : (k : ℕ) (ds : List DecodedLine) (numbers times : List ℕ) (x : ℕ) → (x ≡ 0 → ⊥)
    → import_refusal k (length numbers) (length times) ds ≡ x
    → {r : LogImport} → r ≡ record { refusal = x; arrivals = 0 } → LinesImported k ds numbers times r numbers times
refused-from k ds numbers times zero z f q = absurd (z refl)
refused-from k ds numbers times (suc x) z f {r} q =
    let p : r.refusal ≡ suc x = ap (λ (v : LogImport). v.refusal) q in
    record {
      refusal = p ∙ sym f;
      arrivals = ap (λ (v : LogImport). v.arrivals) q ∙ ap (λ (n : ℕ). if_none n (length (arrivals_of_lines ds)) 0) (sym p);
      filled_numbers = ap (λ (n : ℕ). if_none n (over (numbers_of (arrivals_of_lines ds)) numbers) numbers) (sym p);
      filled_times = ap (λ (n : ℕ). if_none n (over (times_of (arrivals_of_lines ds)) times) times) (sym p);
    }

module _ (k : ℕ) (ds : List DecodedLine) (numbers times : List ℕ) (y : LogJudgement) (e : y ≡ judge_decoded k ds) where
  -- the log is refused
  pub import-refused : (y.refusal ≡ 0 → ⊥) → {r : LogImport} → r ≡ record { refusal = y.refusal; arrivals = 0 }
      → LinesImported k ds numbers times r numbers times
  unfolding import_refusal
  import-refused z q =
      let rs = refusal_if (log_lists_short (length (arrivals_of_lines ds)) (length numbers) (length times)) output_short ∷ [] in
      refused-from k ds numbers times y.refusal z
      (ap (λ (x : LogJudgement). first_refusal (x.refusal ∷ rs)) (sym e) ∙ first-due y.refusal rs (omega (arith, z))) q

  module _ (z : y.refusal ≡ 0) where
    none : (judge_decoded k ds).refusal ≡ 0
    none = ap (λ (x : LogJudgement). x.refusal) (sym e) ∙ z

    -- there are as many arrivals as lines
    many : y.arrivals ≡ length ds
    many = ap (λ (x : LogJudgement). x.arrivals) (e ∙ (accepted-decoded k ds none).answer)

    counted : length (arrivals_of_lines ds) ≡ y.arrivals
    counted = lines-length ds ∙ sym many

    -- 8 comes last
    last : (b : Bool) → log_lists_short y.arrivals (length numbers) (length times) ≡ b
        → import_refusal k (length numbers) (length times) ds ≡ first_refusal (refusal_if b output_short ∷ [])
    unfolding import_refusal
    last b h =
        first_next (judge_decoded k ds).refusal (refusal_if (log_lists_short (length (arrivals_of_lines ds)) (length numbers)
        (length times)) output_short ∷ []) none
        ∙ ap (λ (n : ℕ). first_refusal (refusal_if (log_lists_short n (length numbers) (length times)) output_short ∷ [])) counted
        ∙ ap (λ (x : Bool). first_refusal (refusal_if x output_short ∷ [])) h

    -- a list is too short
    pub import-short : log_lists_short y.arrivals (length numbers) (length times) ≡ true → {r : LogImport}
        → r ≡ record { refusal = output_short; arrivals = 0 } → LinesImported k ds numbers times r numbers times
    import-short h q = refused-from k ds numbers times output_short (λ f. omega arith) (last true h) q

    module _ (h : log_lists_short y.arrivals (length numbers) (length times) ≡ false) where
      -- the lists have a place for each line
      pub rooms : (length ds ≤ length numbers) × (length ds ≤ length times)
      unfolding log_lists_short
      rooms =
          let s = neither (ltb (length numbers) y.arrivals) (ltb (length times) y.arrivals) h in
          let p = ltb-false (length numbers) y.arrivals s.0 in
          let q = ltb-false (length times) y.arrivals s.1 in
          let m = many in
          (omega arith, omega arith)

      -- they are filled
      pub import-filled : {numbers' times' : List ℕ} → numbers' ≡ over (numbers_of (arrivals_of_lines ds)) numbers
          → times' ≡ over (times_of (arrivals_of_lines ds)) times
          → LinesImported k ds numbers times (record { refusal = 0; arrivals = y.arrivals }) numbers' times'
      import-filled n t = record { refusal = sym (last false h); arrivals = sym counted; filled_numbers = n; filled_times = t }

-- where the lists have room the log's own refusal is the importer's
pub import-fits : (k numbers times : ℕ) (ds : List DecodedLine) → (judge_decoded k ds).refusal ≡ 0 → length (arrivals_of_lines ds) ≤ numbers
    → length (arrivals_of_lines ds) ≤ times → import_refusal k numbers times ds ≡ 0
unfolding import_refusal log_lists_short
import-fits k numbers times ds e n t =
    rw (e, le-ltb numbers (length (arrivals_of_lines ds)) n, le-ltb times (length (arrivals_of_lines ds)) t)

-- lists of 4,096 places suffice, so 8 is not given
pub import-room : (k numbers times : ℕ) (ds : List DecodedLine) → arrivals_most ≤ numbers → arrivals_most ≤ times
    → import_refusal k numbers times ds ≡ (judge_decoded k ds).refusal
unfolding import_refusal
import-room k numbers times ds n t = go (judge_decoded k ds).refusal refl
  where
    rs : List ℕ
    rs = refusal_if (log_lists_short (length (arrivals_of_lines ds)) numbers times) output_short ∷ []

    go : (r : ℕ) → (judge_decoded k ds).refusal ≡ r → first_refusal ((judge_decoded k ds).refusal ∷ rs) ≡ (judge_decoded k ds).refusal
    go (suc r) e = first-due (judge_decoded k ds).refusal rs (omega arith)
    go zero e =
        let few = (accepted-decoded k ds e).in_turn.few in
        let l = lines-length ds in
        import-fits k numbers times ds e (omega arith) (omega arith) ∙ sym e
