-- How far a text agrees with the lines of a listing. If some lines agree whole, the next line adds what it has in common with the rest of
-- the text (`agreed-more`, by `common-after`). If they differ, nothing after them counts, and the whole listing does not agree either
-- (`agreed-stop`, by `common-part`). Last, the call's answer: with a refusal nothing is compared (`agreed-refused`); without one the text
-- is the listing exactly if all of the listing agrees and the text is as long (`agreed-accepted`, by `same-common`).
-- Here line is the one after lines, rest all that follows them, at the offset after lines that agree, p how far a line or a listing
-- agrees, d the decoded file, and own that the layout's refusal is the file's. Assumes nothing.
use Prim.Native.Nat.{ℕ, zero, suc, ◌+◌, ◌<◌}
use mathlib.Core.Path.{◌≡◌, refl, sym, ap, ◌∙◌}
use mathlib.Core.Bool.{Bool, true, false, ◌&&◌}
use mathlib.Core.List.{List, ◌++◌}
use native.Mathlib.Omega.{arith}
use lib.Dec.{eqb}
use lib.ListN.{length, drop, length-append}
use borrow.Author.Tests.{eqb-true, eqb-false, ne_eqb}
use Rattle.sample.specs.declared.Layout.{Layout}
use Rattle.sample.specs.Decode.{Decoded, decoded_refusal}
use Rattle.sample.specs.Output.{if_none}
use Rattle.metrics.specs.Agreement.{common, same_text, sample_agreement}
use Rattle.metrics.specs.Report.{sample_text}
use Rattle.metrics.specs.Records.{FileLayout}
use Rattle.metrics.specs.Private.Taken.{Part, Agreed}
use Rattle.metrics.specs.declared.SampleAgreement.{SampleAgreement}
use Rattle.metrics.proofs.Common.{eqb_same, common-le, common-part, common-after, same-common}

-- ---- lines

-- lines that agree, and one more
pub agreed-more : (lines line text : List ℕ) (at : ℕ) (p : Part) → Agreed lines text (record { octets = at; whole = true })
    → Agreed line (drop at text) p
    → Agreed (lines ++ line) text (record { octets = at + p.octets; whole = p.whole })
agreed-more lines line text at p a b =
    let e : common lines text ≡ length lines = eqb-true _ _ (sym a.whole) in
    let n : at ≡ length lines = a.octets ∙ e in
    let after : common (lines ++ line) text ≡ at + common line (drop at text) = rw n (common-after lines line text e) in
    let long : length (lines ++ line) ≡ at + length line = rw n (length-append lines line) in
    let same =
    eqb_same (common line (drop at text)) (length line) (at + common line (drop at text)) (at + length line) (λ q. omega arith)
    (λ q. omega arith) in
    record {
      octets = rw b.octets (sym after);
      whole = b.whole ∙ sym (rw (after, long) same);
    }

-- where lines differ, what stands after them is not read
pub agreed-stop : (lines rest text : List ℕ) (p : Part) → Agreed lines text p → p.whole ≡ false → Agreed (lines ++ rest) text p
agreed-stop lines rest text p a w =
    let e : common lines text ≡ length lines → ⊥ = eqb-false _ _ (sym a.whole ∙ w) in
    let less : common lines text < length lines = omega (arith, e, common-le lines text) in
    let q = common-part lines rest text less in
    record {
      octets = a.octets ∙ sym q;
      whole = w ∙ sym (ne_eqb (common (lines ++ rest) text) (length (lines ++ rest))
          (λ r. omega (arith, r, q, less, length-append lines rest)));
    }

-- ---- the call

module _ (d : Decoded) (layout : Layout) (h : FileLayout d layout) (text : List ℕ) where
  -- the layout has the file's refusal
  own : layout.refusal ≡ decoded_refusal d
  own = ap (λ (layout : Layout). layout.refusal) h.laid

  -- with one the text is not read
  pub agreed-refused : (layout.refusal ≡ 0 → ⊥) → record { refusal = layout.refusal; octets = 0; same = false } ≡ sample_agreement d text
  unfolding sample_agreement
  agreed-refused n = rw own (go (decoded_refusal d) (λ e. n (own ∙ e)))
    where
      go : (r : ℕ) → (r ≡ 0 → ⊥)
          → ◌≡◌ {A = SampleAgreement} (record { refusal = r; octets = 0; same = false })
          (record { refusal = r; octets = if_none r (common (sample_text d) text) 0; same = if_none r (same_text (sample_text d) text) false })
      go zero n = absurd (n refl)
      go (suc r) n = refl

  -- without one it is compared
  pub agreed-accepted : layout.refusal ≡ 0 → (p : Part) → Agreed (sample_text d) text p → (same : Bool)
      → same ≡ (p.whole && eqb p.octets (length text))
      → record { refusal = 0; octets = p.octets; same = same } ≡ sample_agreement d text
  unfolding sample_agreement
  agreed-accepted n p a same e =
      let z : decoded_refusal d ≡ 0 = sym own ∙ n in
      rw (z, e, a.octets, a.whole, same-common (sample_text d) text)
