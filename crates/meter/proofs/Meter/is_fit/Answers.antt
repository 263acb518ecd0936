-- How many jumps are kept, and then each stream as a receiver (`fit_parts`).
use Rattle.std.proofs.Common.{sym, ◌∙◌}
use Rattle.meter.proofs.Meters.{fit_parts, fit-one, fit-two}
use Rattle.meter.proofs.Meter.is_fit.Goals as goal
use Rattle.meter.proofs.Meter.is_fit.Goals.{then-few, else-few}

pub returns-then-is_fit_with : goal.returns-then-is_fit_with
returns-then-is_fit_with c =
    let m = c.args.self.now in
    elim c.if-few.branch [
      | then-few w ↦ c.is_fit_with-then-is_fit_with.ensures
          ∙ fit-two m
          ∙ rw (
            sym c.few.ensures ∙ w.if-few.true,
            sym (fit-one m) ∙ sym w.is_fit_with.ensures ∙ sym w.value-is ∙ c.if-is_fit_with.true,
          ) at (fit_parts m)
      | else-few w ↦ cc
    ]

pub returns-else-is_fit_with : goal.returns-else-is_fit_with
returns-else-is_fit_with c =
    let m = c.args.self.now in
    elim c.if-few.branch [
      | then-few w ↦ c.if-is_fit_with.false
          ∙ rw (
            sym c.few.ensures ∙ w.if-few.true,
            sym (fit-one m) ∙ sym w.is_fit_with.ensures ∙ sym w.value-is ∙ c.if-is_fit_with.false,
          ) at (fit_parts m)
      | else-few w ↦ c.if-is_fit_with.false ∙ rw (sym c.few.ensures ∙ w.if-few.false) at (fit_parts m)
    ]
