-- The text of an input, and the buffer that holds it. The text of a refused input is the line of its refusal, that of an accepted one its
-- report. An accepted input can be refused only with 8, so `metrics::listing` leaves its text if it fits (`listed-text`). d is the decoded
-- input, old and new are the buffer before and after, and r a refusal or the answer of `listing`. Assumes nothing.
use mathlib.Core.Path.{◌≡◌, refl, sym, ap, ◌∙◌}
use mathlib.Core.Bool.{Bool, true, false}
use mathlib.Core.List.{List, [], ◌∷◌}
use Prim.Native.Nat.{ℕ, ◌≤◌, ◌<◌}
use native.Mathlib.Omega.{arith}
use lib.Dec.{ltb}
use lib.ListN.{length}
use borrow.Author.Tests.{ltb-true, ltb-false, lt-leb, le-leb}
use Rattle.octets.specs.Memory.{over}
use Rattle.octets.proofs.Memory.{put-none, put-over}
use Rattle.rfc4737.specs.Refusals.{refusal_if, first_refusal, output_short}
use Rattle.listing.specs.Lines.{refused_line}
use Rattle.metrics.specs.Report.{sample_text, ListedTo}
use Rattle.sample.specs.declared.WriteAnswer.{WriteAnswer}
use Rattle.sample.specs.Output.{if_none}
use Rattle.sample.specs.Decode.{Decoded, refused, accepted, decoded_refusal}
use Rattle.sample.specs.Format.{Sample}
use Rattle.cmd_report.specs.Text.{report_text, PutWhole}

-- the text of a refused input is the line of its refusal
pub text-refused : (d : Decoded) {r : ℕ} → r ≡ decoded_refusal d → (r ≡ 0 → ⊥) → report_text d ≡ refused_line r
unfolding report_text
text-refused (refused q) own due = ap refused_line (sym own)
text-refused (accepted s) own due = absurd (due own)

-- that of an accepted one is its listing
pub text-accepted : (d : Decoded) {s : Sample} → d ≡ accepted s → report_text d ≡ sample_text d
unfolding report_text
text-accepted d e = ap report_text e ∙ sym (ap sample_text e)

-- a listing with no refusal but 8 is put where it fits
whole-or-none : (text old : List ℕ) (q r : ℕ) (new : List ℕ)
    → q ≡ first_refusal (0 ∷ refusal_if (ltb (length old) (length text)) output_short ∷ [])
    → r ≡ if_none q (length text) 0 → new ≡ if_none q (over text old) old → PutWhole text old r new
whole-or-none text old q r new d a m = go (ltb (length old) (length text)) refl d
  where
    go : (short : Bool) → ltb (length old) (length text) ≡ short → q ≡ first_refusal (0 ∷ refusal_if short output_short ∷ [])
        → PutWhole text old r new
    go true e z =
        let s : length old < length text = ltb-true _ _ e in
        record {
          answer = simp (lt-leb _ _ s) (a ∙ ap (λ (n : ℕ). if_none n (length text) 0) z);
          memory = m ∙ ap (λ (n : ℕ). if_none n (over text old) old) z ∙ sym (put-none 0 text old (omega arith));
        }
    go false e z =
        let s : length text ≤ length old = ltb-false _ _ e in
        record {
          answer = simp (le-leb _ _ s) (a ∙ ap (λ (n : ℕ). if_none n (length text) 0) z);
          memory = m ∙ ap (λ (n : ℕ). if_none n (over text old) old) z ∙ sym (put-over 0 [] text old refl (omega arith));
        }

-- what a listing of an accepted sample leaves is its text
pub listed-text : (d : Decoded) (old : List ℕ) {r : WriteAnswer} {new : List ℕ} → 0 ≡ decoded_refusal d → report_text d ≡ sample_text d
    → ListedTo d old r new
    → PutWhole (report_text d) old r.length new
listed-text d old {r} {new} own text l =
    rw text (whole-or-none (sample_text d) old r.refusal r.length new (rw (← own) at l.refusal) l.octets l.filled)
