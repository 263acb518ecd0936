-- The checker's answer, from the agreement that metrics returns: its refusal is the sample's. Without one, `same` says that the listing
-- agrees, else the octets that agree give the wrong line (`by-prefix`).
-- Here d is the decoded sample, `agreement` that of this listing (`is`), and z says that it has no refusal. Assumes nothing.
use Prim.Native.Nat.{ℕ, zero, suc, ◌≤◌}
use mathlib.Core.Path.{◌≡◌, refl, sym, ap, ◌∙◌}
use mathlib.Core.Bool.{true, false}
use mathlib.Core.List.{List}
use native.Mathlib.Omega.{arith}
use lib.ListN.{length}
use Rattle.listing.specs.Room.{listing_octets}
use Rattle.sample.specs.Decode.{Decoded, decoded_refusal}
use Rattle.sample.specs.Output.{if_none}
use Rattle.metrics.specs.Agreement.{common, same_text, sample_agreement}
use Rattle.metrics.specs.Report.{sample_text}
use Rattle.metrics.specs.declared.SampleAgreement.{SampleAgreement}
use Rattle.metrics.proofs.Common.{common-le}
use Rattle.checker.specs.declared.Verdict.{Verdict}
use Rattle.checker.specs.declared.SampleVerdict.{SampleVerdict}
use Rattle.checker.specs.Verdict.{verdict_on, sample_verdict}
use Rattle.checker.specs.Private.{wrong_after}
use Rattle.checker.proofs.Lines.{by-prefix}

module _ (d : Decoded) (listing : List ℕ) (agreement : SampleAgreement) (is : agreement ≡ sample_agreement d listing) where
  -- it is the sample's
  own : agreement.refusal ≡ decoded_refusal d
  unfolding sample_agreement
  own = ap (λ (a : SampleAgreement). a.refusal) is

  -- with one, line 0
  pub checked_refused : (agreement.refusal ≡ 0 → ⊥)
      → record { refusal = agreement.refusal; verdict = Verdict.WrongLine 0 } ≡ sample_verdict d listing
  unfolding sample_verdict
  checked_refused n = rw own (go (decoded_refusal d) (λ e. n (own ∙ e)))
    where
      go : (r : ℕ) → (r ≡ 0 → ⊥)
          → ◌≡◌ {A = SampleVerdict} (record { refusal = r; verdict = Verdict.WrongLine 0 })
          (record { refusal = r; verdict = if_none r (verdict_on (sample_text d) listing) (Verdict.WrongLine 0) })
      go zero n = absurd (n refl)
      go (suc r) n = refl

  module _ (z : agreement.refusal ≡ 0) where
    -- without one, what was compared
    compared : agreement ≡ record { refusal = 0; octets = common (sample_text d) listing; same = same_text (sample_text d) listing }
    unfolding sample_agreement
    compared =
        is
        ∙ ap (λ (r : ℕ). record {
          refusal = r;
          octets = if_none r (common (sample_text d) listing) 0;
          same = if_none r (same_text (sample_text d) listing) false;
        })
        (sym own ∙ z)

    -- the octets that agree
    octets-are : agreement.octets ≡ common (sample_text d) listing
    octets-are = ap (λ (a : SampleAgreement). a.octets) compared

    -- whether it is the same text
    same-is : agreement.same ≡ same_text (sample_text d) listing
    same-is = ap (λ (a : SampleAgreement). a.same) compared

    -- what agrees lies in the listing, and in the text that must be given
    pub octets-most : length (sample_text d) ≤ listing_octets → (agreement.octets ≤ length listing) × (agreement.octets ≤ listing_octets)
    octets-most h = omega (arith, octets-are, common-le (sample_text d) listing)

    -- the same text
    pub checked-same : agreement.same ≡ true → record { refusal = 0; verdict = Verdict.Agrees } ≡ sample_verdict d listing
    unfolding sample_verdict
    checked-same q =
        let e : same_text (sample_text d) listing ≡ true = sym same-is ∙ q in
        let r : decoded_refusal d ≡ 0 = sym own ∙ z in
        rw (r, by-prefix (sample_text d) listing, e)

    -- another one
    pub checked-wrong : agreement.same ≡ false → (v : Verdict)
        → v ≡ wrong_after agreement.octets listing → record { refusal = 0; verdict = v } ≡ sample_verdict d listing
    unfolding sample_verdict
    checked-wrong q v w =
        let e : same_text (sample_text d) listing ≡ false = sym same-is ∙ q in
        let r : decoded_refusal d ≡ 0 = sym own ∙ z in
        rw (r, by-prefix (sample_text d) listing, e, w, octets-are)
