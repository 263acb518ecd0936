-- `follow::text::write_refusal` meets its contract: the parts are written one after the other. Assumes nothing.
use Rattle.std.proofs.Common.{append_assoc, arith}
use mathlib.Core.List.{append-nil}
use Rattle.follow.specs.Text.{refusal_text}
use Rattle.follow.proofs.text.write_refusal.Goals as goal

pub returns-clause-written : goal.returns-clause-written
unfolding refusal_text
returns-clause-written c = simp (c.write_words.ensures.written, c.between.ensures.written (omega arith), append_assoc, append-nil)
