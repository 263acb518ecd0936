-- `sweep::table::clear` meets its contract: `fill` puts zeros in place of the first numbers. Assumes nothing.
use Rattle.std.proofs.Common.{◌≡◌, ◌∙◌, ◌++◌, ℕ, List, ap, drop, replicate, length-take-le}
use Rattle.sweep.specs.Calls.{table_places}
use Rattle.sweep.proofs.table.clear.Goals as goal

pub returns : goal.returns
returns c =
    let filled : c.fill.new.self ≡ replicate table_places 0 =
    c.fill.ensures.after (λ y h. h) ∙ ap (λ (n : ℕ). replicate n 0) (length-take-le table_places c.args.table.now c.requires) in
    ap (λ (l : List ℕ). l ++ drop table_places c.args.table.now) filled
