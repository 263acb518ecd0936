-- Laws of the summary's parts. The spaces before a number in a column are a part of sixteen spaces, as long as its digits leave room
-- (`column-spaces`). What the check returns lays the file out (`laid-out`). Assumes nothing.
use Prim.Native.Nat.{ℕ, zero, suc, ◌-◌, ◌≤◌}
use native.Mathlib.Omega.{arith}
use mathlib.Core.Path.{◌≡◌, refl, ap, subst}
use mathlib.Core.List.{List, ◌∷◌, ◌++◌}
use lib.ListN.{length, take, replicate}
use Rattle.decimal.specs.Decimal.{decimal_of}
use Rattle.listing.specs.Words.{space}
use Rattle.sample.specs.declared.WriteAnswer.{WriteAnswer}
use Rattle.sample.specs.Output.{Output}
use Rattle.sample.specs.declared.Layout.{Layout}
use Rattle.octets.specs.Below.{Octets}
use Rattle.sample.specs.Decode.{decode, layout_of}
use Rattle.metrics.specs.Records.{FileLayout}
use Rattle.metrics.proofs.FoundInFile.{laid}
use Rattle.summary.specs.Text.{column}

-- ---- columns

-- a part of a list of spaces
first-spaces : (n k : ℕ) → k ≤ n → take k (replicate n space) ≡ replicate k space
first-spaces n zero h = refl
first-spaces zero (suc k) h = absurd (omega arith)
first-spaces (suc n) (suc k) h = ap (λ (l : List ℕ). space ∷ l) (first-spaces n k (omega arith))

-- a number after its spaces
pub column-spaces : (width v digits spaces : ℕ) → width ≤ 16 → digits ≡ length (decimal_of v) → spaces ≡ width - digits
    → take spaces (replicate 16 space) ++ decimal_of v ≡ column width v
unfolding column
column-spaces width v digits spaces h e f =
    let few : width - digits ≤ 16 = omega arith in
    rw (f, first-spaces 16 (width - digits) few, e)

-- ---- a text

-- the refusal and the text may each be replaced by an equal one
pub output-of : {own own' : ℕ} {xs ys old new : List ℕ} {r : WriteAnswer} → own ≡ own' → xs ≡ ys → Output own xs old r new
    → Output own' ys old r new
output-of {own} {own'} {xs} {ys} {old} {new} {r} e f w =
    subst (λ (n : ℕ). Output n ys old r new) e (subst (λ (l : List ℕ). Output own l old r new) f w)

-- the layout that the check returns is the file's
pub laid-out : (file : List ℕ) (layout : Layout) → layout ≡ layout_of (decode file) → Octets file → FileLayout (decode file) layout
laid-out file layout e o = rw e (laid file o)
