use Rattle.std.proofs.Common.{ℕ, List, ◌≡◌, ◌-◌, ◌<◌, ◌∙◌, ap, rules, arith, length, get_or, set, drop}
use Rattle.receiver.specs.Limits.{window_places}
use Rattle.receiver.specs.Parts.{oldest_first}
use Rattle.receiver.proofs.OldestFirst.{read_at, write-at, same_length}
use Rattle.receiver.proofs.Shift.{held_at, held_next, pushed-held}
use Rattle.receiver.proofs.kept.push_16.Goals as goal

pub loop-i-preserved : goal.loop-i-preserved
loop-i-preserved c =
    let l = c.loop-i in
    let size : length l.values ≡ window_places = search rules in
    let t : List ℕ = oldest_first c.args.down l.values in
    let i = l.i - 1 in
    let inside : i < window_places = omega arith in
    let here : i < length t = omega (arith, same_length c.args.down l.values, size) in
    ap (held_at i (get_or l.values c.place-at.result 0)) (write-at l.values size c.args.down i _ l.carried inside c.place-at.ensures.0)
    ∙ ap (λ (v : ℕ). held_at i v (set t i l.carried)) (read_at l.values size c.args.down i _ inside c.place-at.ensures.0)
    ∙ held_next t i l.carried here
    ∙ ap (λ (n : ℕ). held_at n l.carried t) (omega arith)
    ∙ l.invariant

pub returns : goal.returns
returns c =
    let old : List ℕ = oldest_first c.args.down c.args.values.now in
    let before : length c.args.values.now ≡ window_places = search rules in
    let enough : c.args.last < length old = omega (arith, same_length c.args.down c.args.values.now, before) in
    let e : c.loop-i.i ≡ 0 = omega arith in
    ap (drop 1) (rw e at c.loop-i.invariant) ∙ pushed-held old c.args.last c.args.value enough
