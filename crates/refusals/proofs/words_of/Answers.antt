use Rattle.std.proofs.Common.{rules}
use Rattle.refusals.proofs.Asked.{words_at}
use Rattle.refusals.proofs.words_of.Goals as goal

pub returns : goal.returns
returns c = search (rules, words_at)
