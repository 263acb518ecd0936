-- The octets at a packet's offset are its size (`size-stands`), which has two octets. Assumes nothing.
use Rattle.metrics.proofs.FoundInFile.{size-stands}
use native.Mathlib.Omega.{arith}
use Rattle.metrics.proofs.engine.input.CheckedFile.size_of.Goals as goal

pub returns : goal.returns
returns c =
    (size-stands _ _ c.args.self.now.laid _ c.requires.0 c.requires.1 c.payload_size.ensures.sample, omega arith)
