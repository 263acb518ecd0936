-- `capi::worse_calls::krakobran_worse` meets its contract: the figures are those of the link that `compare` found. Assumes nothing.
use Rattle.std.proofs.Common.{◌≡◌, ap, ◌∙◌}
use Rattle.sample.specs.Decode.{Decoded}
use Rattle.worse.specs.declared.Comparison.{Comparison}
use Rattle.worse.specs.Worse.{comparison_of, worse_label, worse_start}
use Rattle.capi.specs.Worse.{link_figures, worse_figures}
use Rattle.capi.proofs.worse_calls.krakobran_worse.Goals as goal

-- the figures of the link of a comparison
told : (a b : Decoded) (x : Comparison) → x ≡ comparison_of a b → link_figures x.link a b ≡ worse_figures a b
unfolding comparison_of worse_start worse_label
told a b x e = ap (λ (y : Comparison). link_figures y.link a b) e

pub returns : goal.returns
returns c =
    let e = c.compare-comparison.ensures in
    (ap (λ (y : Comparison). y.refusal) e, c.link_figures.ensures ∙ told _ _ _ e)
