-- `cmd_summary::summarize` meets its contract: the text of a refused input is the line of its refusal (`shown-refused`), that of an
-- accepted input its summary (`shown-accepted`). Assumes nothing.
use Rattle.std.proofs.Common.{◌≡◌, sym, ap, ◌∙◌}
use Rattle.sample.specs.Decode.{decode, decoded_refusal}
use Rattle.sample.specs.declared.Layout.{Layout}
use Rattle.sample.proofs.Accepted.{found-sample}
use Rattle.cmd_summary.proofs.Shown.{shown-refused, shown-accepted}
use Rattle.cmd_summary.proofs.summarize.Goals as goal

pub returns-then-own-ne-NONE : goal.returns-then-own-ne-NONE
returns-then-own-ne-NONE c =
    let a = c.args in
    let own : c.check-own.result.refusal ≡ decoded_refusal (decode a.input.now) = ap (λ (y : Layout). y.refusal) c.check-own.ensures.value in
    rw (← shown-refused a.form (decode a.input.now) own c.if-own-ne-NONE.true) c.refuse.ensures

pub returns : goal.returns
returns c =
    let a = c.args in
    let file = a.input.now in
    let own : c.check-own.result.refusal ≡ decoded_refusal (decode file) = ap (λ (y : Layout). y.refusal) c.check-own.ensures.value in
    let none = c.if-own-ne-NONE.false in
    let text = shown-accepted a.form (decode file) (found-sample file c.check-own.result c.check-own.ensures.value none) in
    rw (← text) (rw (sym own ∙ none) at c.write_form.ensures)
