-- K's test comes before any line; else the lines decide.
use Rattle.std.proofs.Common.{sym, ◌∙◌}
use Rattle.rfc4737.specs.Judge.{sent_most}
use Rattle.rfc4737.proofs.Due.{between}
use Rattle.textlog.specs.Decode.{judge_decoded}
use Rattle.textlog.proofs.judge_log.Goals as goal

pub returns-then-outside : goal.returns-then-outside
unfolding judge_decoded
returns-then-outside g c = sym (simp (sym c.outside.ensures ∙ c.if-outside.true))

pub judge_lines-requires : goal.judge_lines-requires
judge_lines-requires g c = (between 1 sent_most c.args.k (sym c.outside.ensures ∙ c.if-outside.false)).1

pub returns : goal.returns
unfolding judge_decoded
returns g c = c.judge_lines.ensures ∙ sym (simp (sym c.outside.ensures ∙ c.if-outside.false))
