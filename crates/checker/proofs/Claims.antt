-- The verdict is `Agrees` exactly for the report, and the start of a listing decides. By the longest common prefix (`by-prefix`) the
-- verdict is `Agrees` exactly if both texts have the same octets, and then they are equal (`same_text-equal`, by induction over both). For a
-- refused sample it is never `Agrees`. The verdict reads at most one octet more of the listing than the report has (`verdict-start`), and
-- no report has more than `listing_octets`. e is the report, t another text, and d the decoded sample. Assumes nothing.
use Prim.Native.Nat.{ℕ, zero, suc, ◌≤◌}
use mathlib.Core.Path.{◌≡◌, refl, sym, ap, ap₂, ◌∙◌}
use mathlib.Core.Bool.{Bool, true, false, cond, ◌&&◌, true≢false}
use mathlib.Core.List.{List, [], ◌∷◌}
use native.Mathlib.Omega.{arith}
use lib.Dec.{eqb}
use lib.ListN.{length}
use borrow.Author.Tests.{eqb-true, eq-eqb}
use Rattle.listing.specs.Room.{listing_octets}
use Rattle.sample.specs.Decode.{Decoded, decoded_refusal}
use Rattle.sample.specs.Output.{if_none}
use Rattle.metrics.specs.Agreement.{common, same_text}
use Rattle.metrics.specs.Report.{sample_text}
use Rattle.checker.specs.declared.Verdict.{Verdict}
use Rattle.checker.specs.Verdict.{verdict_on, sample_verdict}
use Rattle.checker.specs.Claims.{AgreesExactly, StartDecides}
use Rattle.checker.specs.Private.{wrong_after}
use Rattle.checker.proofs.Lines.{by-prefix, verdict-start}

-- ---- the same text

-- texts that are the same octet by octet are equal
same_text-equal : (e t : List ℕ) → same_text e t ≡ true → t ≡ e
unfolding same_text
same_text-equal [] [] q = refl
same_text-equal [] (y ∷ t) q = absurd (true≢false (sym q))
same_text-equal (x ∷ e) [] q = absurd (true≢false (sym q))
same_text-equal (x ∷ e) (y ∷ t) q = go (eqb x y) refl (same_text e t) refl q (same_text-equal e t)
  where
    go : (b : Bool) → eqb x y ≡ b → (s : Bool) → same_text e t ≡ s → (b && s) ≡ true → (same_text e t ≡ true → t ≡ e) → (y ∷ t) ≡ (x ∷ e)
    go true q true r z h = ap₂ (λ (a : ℕ) (l : List ℕ). a ∷ l) (sym (eqb-true x y q)) (h r)
    go true q false r z h = absurd (true≢false (sym z))
    go false q s r z h = absurd (true≢false (sym z))

-- any text is the same as itself
same_self : (e : List ℕ) → same_text e e ≡ true
unfolding same_text
same_self [] = refl
same_self (x ∷ e) = rw (eq-eqb x x refl, same_self e)

-- ---- yes

abbrev is_yes : Verdict → Bool
is_yes Verdict.Agrees = true
is_yes (Verdict.WrongLine n) = false

-- yes is said of the one text alone
verdict-only : (e t : List ℕ) → verdict_on e t ≡ Verdict.Agrees → t ≡ e
verdict-only e t q = same_text-equal e t (go (same_text e t) (sym (by-prefix e t) ∙ q))
  where
    go : (b : Bool) → cond b Verdict.Agrees (wrong_after (common e t) t) ≡ Verdict.Agrees → b ≡ true
    go true r = refl
    go false r = absurd (true≢false (sym (ap is_yes r)))

-- and it is said of that
verdict-self : (e : List ℕ) → verdict_on e e ≡ Verdict.Agrees
verdict-self e = by-prefix e e ∙ rw (same_self e)

-- ---- the claims

pub agrees-exactly : (d : Decoded) → AgreesExactly d
unfolding sample_verdict
agrees-exactly d = record { only = λ listing q. go listing (decoded_refusal d) q; always = λ z. rw z (verdict-self (sample_text d)) }
  where
    go : (listing : List ℕ) (r : ℕ) → if_none r (verdict_on (sample_text d) listing) (Verdict.WrongLine 0) ≡ Verdict.Agrees → (r ≡ 0)
        × (listing ≡ sample_text d)
    go listing zero q = (refl, verdict-only (sample_text d) listing q)
    go listing (suc r) q = absurd (true≢false (sym (ap is_yes q)))

pub start-decides : (d : Decoded) → length (sample_text d) ≤ listing_octets → StartDecides d
unfolding sample_verdict
start-decides d h = record { start = λ listing n g. rw (verdict-start n (sample_text d) listing (omega arith)) }
