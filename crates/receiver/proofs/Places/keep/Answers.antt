use Rattle.std.proofs.Common.{◌≡◌, true, false, refl, ap, ◌∙◌, arith, rules}
use borrow.Author.Tests.{lt-ltb, le-ltb}
use Rattle.rfc4737.specs.Order.{FirstArrival}
use Rattle.receiver.specs.Parts.{in_count}
use Rattle.receiver.specs.Kept.{held_of}
use Rattle.receiver.specs.Private.{jump_of, pushed}
use Rattle.receiver.proofs.OldestFirst.{same_full}
use Rattle.receiver.proofs.StatesWritten.{jump-kept}
use Rattle.receiver.proofs.Places.keep.Goals as goal

pub returns-then-stream-share-clause-jumps : goal.returns-then-stream-share-clause-jumps
unfolding pushed
returns-then-stream-share-clause-jumps c =
    let full = same_full c.args.share.down c.args.self.now.positions c.args.self.now.numbers c.args.self.now.times
    (search rules, (search rules, search rules)) in
    rw (lt-ltb _ _ c.if-stream-share.true)
    (jump-kept true (held_of c.args.stream.now (in_count c.args.share.down c.args.self.now)) (jump_of c.args.jump) c.requires.0 full
    (λ e. omega arith) (λ e. cc) c.args.stream.now.dropped _ refl c.put.ensures)

pub returns-else-stream-share-clause-jumps : goal.returns-else-stream-share-clause-jumps
returns-else-stream-share-clause-jumps c =
    let full = same_full c.args.share.down c.args.self.now.positions c.args.self.now.numbers c.args.self.now.times
    (search rules, (search rules, search rules)) in
    rw (le-ltb _ _ c.if-stream-share.false)
    (jump-kept false (held_of c.args.stream.now (in_count c.args.share.down c.args.self.now)) (jump_of c.args.jump) c.requires.0 full
    (λ e. cc) (λ e. omega arith) _ _ (ap (λ (p : FirstArrival). p.number) c.jump.ensures) c.shift.ensures)
