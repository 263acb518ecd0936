-- `cmd_table::put_part` meets its contract: the part of an accepted input is that of its table (`shown-accepted`); of a refused input it
-- is the line of its refusal (`shown-line`) or empty (`shown-empty`). The parts are the whole (`shown-join`). Assumes nothing.
use Rattle.std.proofs.Common.{◌≡◌, arith, ap, ◌∙◌}
use Rattle.sample.specs.declared.Layout.{Layout}
use Rattle.sample.specs.Decode.{decode, decoded_refusal}
use Rattle.sample.proofs.Accepted.{found-sample}
use Rattle.cmd_table.specs.Shown.{ShownJoin}
use Rattle.cmd_table.proofs.Shown.{shown-accepted, shown-line, shown-empty, shown-join}
use Rattle.cmd_table.proofs.put_part.Goals as goal

pub returns-then-own-eq-NONE : goal.returns-then-own-eq-NONE
returns-then-own-eq-NONE c =
    let file = c.args.input.now in
    let w = c.write_form.ensures in
    let a = found-sample file c.check-own.result c.check-own.ensures.value c.if-own-eq-NONE.true in
    let part = shown-accepted c.args.json (decode file) c.args.part a w.0 (omega (arith, w.1, c.requires)) in
    record { shown = part; whole = shown-join c.args.json (decode file) (λ _. w.2) }

pub returns-then-part-eq0 : goal.returns-then-part-eq0
returns-then-part-eq0 c =
    let d = decode c.args.input.now in
    let own : c.check-own.result.refusal ≡ decoded_refusal d = ap (λ (y : Layout). y.refusal) c.check-own.ensures.value in
    let due = c.if-own-eq-NONE.false in
    let joins : ShownJoin c.args.json d = shown-join _ _ (λ z. absurd (due (own ∙ z))) in
    let w = c.refuse.ensures in
    record { shown = shown-line c.args.json d c.args.part own due c.if-part-eq0.true w.0 w.1; whole = joins }

pub returns : goal.returns
returns c =
    let d = decode c.args.input.now in
    let own : c.check-own.result.refusal ≡ decoded_refusal d = ap (λ (y : Layout). y.refusal) c.check-own.ensures.value in
    let due = c.if-own-eq-NONE.false in
    let joins : ShownJoin c.args.json d = shown-join _ _ (λ z. absurd (due (own ∙ z))) in
    record { shown = shown-empty c.args.json d c.args.part own due c.if-part-eq0.false; whole = joins }
