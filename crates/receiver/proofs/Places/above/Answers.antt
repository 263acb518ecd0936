use Rattle.std.proofs.Common.{◌≡◌, ◌<◌, ◌≤◌, get_or, length, arith, rules, below_more}
use borrow.Author.Tests.{le-ltb}
use Rattle.receiver.specs.Limits.{window_places}
use Rattle.receiver.specs.Parts.{oldest_first}
use Rattle.receiver.proofs.OldestFirst.{read_at}
use Rattle.receiver.proofs.Places.above.Goals as goal

pub returns-then-number-self-clause-first : goal.returns-then-number-self-clause-first
returns-then-number-self-clause-first c =
    let size : length c.args.self.now.numbers ≡ window_places = search rules in
    let h : c.loop-i.i < window_places = omega arith in
    let e = read_at c.args.self.now.numbers size c.args.down _ _ h c.place.ensures.0 in
    record { place-high = omega arith; before = c.loop-i.invariant; above = λ h. omega (arith, e) }

pub loop-i-preserved : goal.loop-i-preserved
loop-i-preserved c =
    let size : length c.args.self.now.numbers ≡ window_places = search rules in
    let h : c.loop-i.i < window_places = omega arith in
    let e = read_at c.args.self.now.numbers size c.args.down _ _ h c.place.ensures.0 in
    let low : get_or (oldest_first c.args.down c.args.self.now.numbers) c.loop-i.i 0 ≤ c.args.number = omega (arith, e) in
    below_more _ _ c.loop-i.invariant (le-ltb _ _ low)
