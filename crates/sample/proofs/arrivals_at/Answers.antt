-- Where the arrivals begin in a file of this layout.
use Rattle.std.proofs.Common.{arith}
use Rattle.sample.proofs.OfSample.{arrivals-from}
use Rattle.sample.proofs.arrivals_at.Goals as goal

pub returns-clause-sample : goal.returns-clause-sample
returns-clause-sample c = λ file. arrivals-from file c.args.layout (omega arith)
