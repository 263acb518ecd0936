use Rattle.std.proofs.Common.{◌≡◌, ap, ◌+◌, ◌∙◌, arith, ℕ}
use Rattle.receiver.specs.Parts.{in_count}
use Rattle.receiver.specs.Private.{jump_of, pushed_places}
use Rattle.receiver.proofs.Places.shift.Goals as goal

pub returns-then-kept-eq-WINDOW : goal.returns-then-kept-eq-WINDOW
returns-then-kept-eq-WINDOW c =
    c.put_last.ensures
    ∙ ap (λ (n : ℕ). pushed_places n (in_count c.args.down c.args.self.now) (jump_of c.args.jump)) (omega arith)

pub returns-else-kept-eq-WINDOW : goal.returns-else-kept-eq-WINDOW
returns-else-kept-eq-WINDOW c =
    c.put_last-else-kept-eq-WINDOW.ensures
    ∙ ap (λ (n : ℕ). pushed_places n (in_count c.args.down c.args.self.now) (jump_of c.args.jump)) (omega arith)
