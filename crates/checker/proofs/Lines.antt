-- The verdict by lines equals the verdict by the longest common prefix: the wrong line is the number of its line feeds, plus 1
-- (`by-prefix`). Both equal the verdict octet by octet, by induction over both texts. A common octet before both texts does not change
-- the verdict by lines, unless it is a line feed, since no line is empty (`judged-lines`). It lengthens the prefix by 1, and adds a line
-- if it is a line feed (`stepped-prefix`). Octet by octet, at most one octet more of the listing is read than the report has
-- (`stepped_start`). e is the report, t the listing, x and y are their next octets, n or m is the number of the line. Assumes nothing.
use Prim.Native.Nat.{ℕ, zero, suc, ◌+◌, ◌<◌}
use mathlib.Core.Path.{◌≡◌, refl, sym, ap, ◌∙◌}
use mathlib.Core.Bool.{Bool, true, false, cond, ◌&&◌}
use mathlib.Core.List.{List, [], ◌∷◌}
use native.Mathlib.Omega.{arith}
use native.Mathlib.Nat.{add-zero}
use lib.Dec.{eqb}
use lib.ListN.{length, take}
use borrow.Author.Tests.{eqb-true, eq-eqb}
use Rattle.octets.specs.Text.{line_feed, in_front, lines}
use Rattle.octets.proofs.Text.{first-line}
use Rattle.metrics.specs.Agreement.{common, same_text}
use Rattle.checker.specs.declared.Verdict.{Verdict}
use Rattle.checker.specs.Verdict.{verdict_on_lines, verdict_on}
use Rattle.checker.specs.Private.{feeds, wrong_after}

-- ---- lines, octet by octet

-- an octet more in front of both changes nothing
judged-in-front : (n x : ℕ) (e t : List ℕ) → verdict_on_lines n (in_front x (lines e)) (in_front x (lines t))
    ≡ verdict_on_lines n (lines e) (lines t)
unfolding lines verdict_on_lines same_text
judged-in-front n x [] [] = rw (eq-eqb x x refl)
judged-in-front n x [] (y ∷ t) = rw ((first-line y t).lead, eq-eqb x x refl)
judged-in-front n x (z ∷ e) [] = rw ((first-line z e).lead, eq-eqb x x refl)
judged-in-front n x (z ∷ e) (y ∷ t) = rw ((first-line z e).lead, (first-line y t).lead, eq-eqb x x refl)

-- the verdict octet by octet, on line n
unfoldable stepped : ℕ → List ℕ → List ℕ → Verdict
stepped n [] [] = Verdict.Agrees
stepped n [] (y ∷ t) = Verdict.WrongLine n
stepped n (x ∷ e) [] = Verdict.WrongLine n
stepped n (x ∷ e) (y ∷ t) = cond (eqb x y) (stepped (cond (eqb x line_feed) (n + 1) n) e t) (Verdict.WrongLine n)

-- by lines it is the same
judged-lines : (n : ℕ) (e t : List ℕ) → verdict_on_lines n (lines e) (lines t) ≡ stepped n e t
unfolding verdict_on_lines lines stepped same_text
judged-lines n [] [] = refl
judged-lines n [] (y ∷ t) = rw (first-line y t).lead
judged-lines n (x ∷ e) [] = rw (first-line x e).lead
judged-lines n (x ∷ e) (y ∷ t) = go (λ m. judged-lines m e t) (eqb x y) refl
  where
    both : ((m : ℕ) → verdict_on_lines m (lines e) (lines t) ≡ stepped m e t) → (b : Bool)
        → verdict_on_lines n (cond b ((x ∷ []) ∷ lines e) (in_front x (lines e))) (cond b ((x ∷ []) ∷ lines t) (in_front x (lines t)))
        ≡ stepped (cond b (n + 1) n) e t
    both h true = rw (eq-eqb x x refl) (h (n + 1))
    both h false = judged-in-front n x e t ∙ h n

    go : ((m : ℕ) → verdict_on_lines m (lines e) (lines t) ≡ stepped m e t) → (b : Bool) → eqb x y ≡ b
        → verdict_on_lines n (lines (x ∷ e)) (lines (y ∷ t)) ≡ cond b (stepped (cond (eqb x line_feed) (n + 1) n) e t) (Verdict.WrongLine n)
    go h true q = let s : x ≡ y = eqb-true x y q in rw (← s) (both h (eqb x line_feed))
    go h false q = rw ((first-line x e).lead, (first-line y t).lead, q)

-- ---- the longest common prefix

-- yes, or else a line
abbrev unless : Bool → ℕ → Verdict
unless same n = cond same Verdict.Agrees (Verdict.WrongLine n)

-- two texts are the same, or the line is n and the line feeds of what they have in common
stepped-prefix : (n : ℕ) (e t : List ℕ) → stepped n e t ≡ unless (same_text e t) (n + feeds (take (common e t) t))
unfolding stepped common feeds same_text
stepped-prefix n [] [] = refl
stepped-prefix n [] (y ∷ t) = rw (add-zero n)
stepped-prefix n (x ∷ e) [] = rw (add-zero n)
stepped-prefix n (x ∷ e) (y ∷ t) = go (λ m. stepped-prefix m e t) (eqb x y) refl
  where
    later : (b : Bool) (m : ℕ) → cond b (n + 1) n + m ≡ n + cond b (m + 1) m
    later true m = omega arith
    later false m = refl

    go : ((m : ℕ) → stepped m e t ≡ unless (same_text e t) (m + feeds (take (common e t) t))) → (b : Bool) → eqb x y ≡ b
        → cond b (stepped (cond (eqb x line_feed) (n + 1) n) e t) (Verdict.WrongLine n)
        ≡ unless (b && same_text e t) (n + feeds (take (cond b (common e t + 1) 0) (y ∷ t)))
    go h true q =
        let s : x ≡ y = eqb-true x y q in
        let a : common e t + 1 ≡ suc (common e t) = omega arith in
        h (cond (eqb x line_feed) (n + 1) n) ∙ rw (a, s) (ap (unless (same_text e t)) (later (eqb y line_feed) (feeds (take (common e t) t))))
    go h false q = rw (add-zero n)

-- the verdict by lines is that by the longest common prefix
pub by-prefix : (expected listing : List ℕ) → verdict_on expected listing
    ≡ cond (same_text expected listing) Verdict.Agrees (wrong_after (common expected listing) listing)
unfolding verdict_on
by-prefix expected listing = judged-lines 1 expected listing ∙ stepped-prefix 1 expected listing

-- ---- the start of a listing

-- it decides, if it has more octets than the text that must be given
stepped_start : (m n : ℕ) (e t : List ℕ) → length e < n → stepped m e (take n t) ≡ stepped m e t
unfolding stepped
stepped_start m zero e t h = absurd (omega arith)
stepped_start m (suc n) [] [] h = refl
stepped_start m (suc n) [] (y ∷ t) h = refl
stepped_start m (suc n) (x ∷ e) [] h = refl
stepped_start m (suc n) (x ∷ e) (y ∷ t) h = rw (stepped_start (cond (eqb x line_feed) (m + 1) m) n e t (omega arith))

-- so by lines
pub verdict-start : (n : ℕ) (expected listing : List ℕ) → length expected < n
    → verdict_on expected (take n listing) ≡ verdict_on expected listing
unfolding verdict_on
verdict-start n expected listing h =
    judged-lines 1 expected (take n listing) ∙ stepped_start 1 n expected listing h ∙ sym (judged-lines 1 expected listing)
