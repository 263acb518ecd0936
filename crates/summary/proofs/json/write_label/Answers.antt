-- `summary::json::write_label` meets its contract: the next octet stands after those before it (`escaped-next`). Assumes nothing.
use Rattle.std.proofs.Common.{◌++◌, ◌<◌, List, ℕ, length, take, get_or, ap, sym, ◌∙◌, append_assoc, arith}
use mathlib.Core.List.{append-nil}
use Rattle.summary.specs.Json.{escaped, escaped_octet}
use Rattle.summary.proofs.Escapes.{escaped-none, escaped-next}
use Rattle.summary.proofs.json.write_label.Goals as goal

pub loop-octet-init : goal.loop-octet-init
loop-octet-init g c =
    let out = c.args.out.now in
    record { written = sym (ap (λ (xs : List ℕ). out ++ xs) (escaped-none c.args.label.now) ∙ append-nil out); room = omega arith }

pub loop-octet-preserved : goal.loop-octet-preserved
loop-octet-preserved g c =
    let l = c.loop-octet in
    let out = c.args.out.now in
    let label = c.args.label.now in
    let inside : l.octet-index < length label = c.loop-octet-test.true in
    record {
      written =
          c.write_octet.ensures.written
          ∙ ap (λ (xs : List ℕ). xs ++ escaped_octet (get_or label l.octet-index 0)) l.invariant.written
          ∙ append_assoc out (escaped (take l.octet-index label)) (escaped_octet (get_or label l.octet-index 0))
          ∙ ap (λ (xs : List ℕ). out ++ xs) (escaped-next label l.octet-index inside);
      room = omega (arith, c.write_octet.ensures.room, l.invariant.room);
    }
