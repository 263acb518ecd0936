-- The refusal of the import is returned as it is. If there is none, K is at most
-- 4,096 and the lists begin with the arrivals, so the parts that `write` takes lie within the lists (`convert-written`). l are the
-- arrivals.
use Rattle.rfc4737.specs.Judge.{sent_most}
use Rattle.cmd_import.proofs.Sampled.{take-equal, convert-refused, convert-written}
use Rattle.cmd_import.proofs.convert.convert_lists.Goals as goal

pub returns-then-imported-ne0 : goal.returns-then-imported-ne0
returns-then-imported-ne0 c l h =
    convert-refused _ _ c.args.packets.k c.args.packets.size l _ c.if-imported-ne0.true

pub returns : goal.returns
returns c l h =
    let a = c.args in
    let g = h c.if-imported-ne0.false in
    convert-written _ _ _ l _ _ c.write.result _ c.if-imported-ne0.false g.judged (take-equal a.packets.k sent_most a.packets.size g.sent)
    g.in_numbers.1 g.in_times.1 c.write.ensures.written_to
