-- `worse::compare` meets its contract. The counts of a sample have its file's refusal (`counted`), and the first file's comes before the
-- second's. If there is none, `greater` of the two ratios is the test of the definition (`tested`). Assumes nothing.
use Rattle.std.proofs.Common.{arith, ◌≡◌, ◌∙◌, sym, ap, ap₂, ℕ, ◌<◌, true, false, List}
use Rattle.sample.specs.Decode.{decode, decoded_refusal}
use Rattle.metrics.specs.declared.SampleCounts.{SampleCounts}
use Rattle.metrics.specs.Figures.{sample_counts}
use Rattle.worse.specs.declared.Fraction.{Fraction}
use Rattle.worse.specs.Worse.{reordered_ratio, greater, ratio_in, refusal_of_both}
use Rattle.worse.proofs.Compared.{first-refused, second-refusal, compared-refused, compared}
use Rattle.worse.proofs.compare.Goals as goal

-- the refusal of a sample's counts is the file's
counted : (x : SampleCounts) (f : List ℕ) → x ≡ sample_counts (decode f) → x.refusal ≡ decoded_refusal (decode f)
unfolding sample_counts
counted x f e = ap (λ (y : SampleCounts). y.refusal) e

-- no refusal of both
accepted : (x y : SampleCounts) (f g : List ℕ) → x ≡ sample_counts (decode f) → x.refusal ≡ 0 → y ≡ sample_counts (decode g)
    → y.refusal ≡ 0 → refusal_of_both (decode f) (decode g) ≡ 0
accepted x y f g e z h w = second-refusal (decode f) (decode g) (sym (counted x f e) ∙ z) 0 (sym w ∙ counted y g h)

-- the ratio from the counts is that of the file
ratio-of : (x : SampleCounts) (f : List ℕ) (r : Fraction) → x ≡ sample_counts (decode f) → r ≡ reordered_ratio x.counts
    → r ≡ ratio_in (decode f)
unfolding ratio_in
ratio-of x f r e h = h ∙ ap (λ (y : SampleCounts). reordered_ratio y.counts) e

pub returns-then-one-ne0 : goal.returns-then-one-ne0
returns-then-one-ne0 c =
    let one = c.counts-one in
    let h : 0 < one.result.refusal = omega (arith, c.if-one-ne0.true) in
    c.refused.ensures
    ∙ compared-refused _ _ one.result.refusal (first-refused _ _ one.result.refusal (counted one.result _ one.ensures) h) h

pub returns-then-other-ne0 : goal.returns-then-other-ne0
returns-then-other-ne0 c =
    let one = c.counts-one in
    let other = c.counts-other in
    let h : 0 < other.result.refusal = omega (arith, c.if-other-ne0.true) in
    let z = sym (counted one.result _ one.ensures) ∙ c.if-one-ne0.false in
    c.refused-then-other-ne0.ensures
    ∙ compared-refused _ _ other.result.refusal
    (second-refusal _ _ z other.result.refusal (counted other.result _ other.ensures)) h

pub returns-then-greater : goal.returns-then-greater
returns-then-greater c =
    let one = c.counts-one in
    let other = c.counts-other in
    let p = ratio-of other.result _ _ other.ensures c.reordered_ratio.ensures in
    let q = ratio-of one.result _ _ one.ensures c.reordered_ratio-2.ensures in
    compared _ _ (accepted one.result other.result _ _ one.ensures c.if-one-ne0.false other.ensures c.if-other-ne0.false) true
    (sym (c.greater.ensures ∙ ap₂ greater p q) ∙ c.if-greater.true)

pub returns : goal.returns
returns c =
    let one = c.counts-one in
    let other = c.counts-other in
    let p = ratio-of other.result _ _ other.ensures c.reordered_ratio.ensures in
    let q = ratio-of one.result _ _ one.ensures c.reordered_ratio-2.ensures in
    compared _ _ (accepted one.result other.result _ _ one.ensures c.if-one-ne0.false other.ensures c.if-other-ne0.false) false
    (sym (c.greater.ensures ∙ ap₂ greater p q) ∙ c.if-greater.false)
