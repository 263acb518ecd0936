use Rattle.std.proofs.Common.{rules}
use Rattle.receiver.specs.Kept.{place_at}
use Rattle.receiver.proofs.OldestFirst.{jump-read}
use Rattle.receiver.proofs.Places.jump.Goals as goal

pub returns : goal.returns
unfolding place_at
returns c = jump-read c.args.self.now (search rules, (search rules, search rules)) c.args.down _ _ c.requires c.place-at.ensures.0
