-- `follow::text::write_beyond` meets its contract: the parts are written one after the other. Assumes nothing.
use Rattle.std.proofs.Common.{append_assoc, arith}
use mathlib.Core.List.{append-nil}
use Rattle.follow.specs.Text.{beyond_text}
use Rattle.follow.proofs.text.write_beyond.Goals as goal

pub returns-clause-written : goal.returns-clause-written
unfolding beyond_text
returns-clause-written c = simp (c.word.ensures.written (omega arith), c.write_extent.ensures.written, append_assoc, append-nil)
