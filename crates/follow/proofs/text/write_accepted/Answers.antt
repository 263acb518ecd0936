-- `follow::text::write_accepted` meets its contract: the parts are written one after the other. Assumes nothing.
use Rattle.std.proofs.Common.{append_assoc, arith}
use mathlib.Core.List.{append-nil}
use Rattle.follow.specs.Text.{accepted_text}
use Rattle.follow.proofs.text.write_accepted.Goals as goal

pub returns-clause-written : goal.returns-clause-written
unfolding accepted_text
returns-clause-written c =
    simp (c.between-4.ensures.written (omega arith), c.between-3.ensures.written (omega arith), c.between-2.ensures.written (omega arith), c.between.ensures.written (omega arith), c.saturating_sub-late.ensures, append_assoc, append-nil)
