use Rattle.std.proofs.Common.{rules}
use Rattle.receiver.specs.Private.{jump_of}
use Rattle.receiver.proofs.OldestFirst.{jump-written}
use Rattle.receiver.proofs.Places.put.Goals as goal

pub returns : goal.returns
returns c = jump-written c.args.self.now (search rules, (search rules, search rules)) c.args.down _ _ c.requires c.place-at.ensures.0 (jump_of c.args.jump)
