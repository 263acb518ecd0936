-- `cmd_export::log::put_log` meets its contract: a refusal of `read` is the file's own. If there is none, the lists begin with the arrivals
-- (`read-numbers`, `read-times`), so these parts lie within the lists, and `write` writes the sample's log (`log-written`). Assumes nothing.
use Rattle.std.proofs.Common.{ap, w8}
use Rattle.octets.specs.Below.{Octets}
use Rattle.octets.proofs.Below.{below-fits}
use Rattle.sample.specs.Decode.{decode, decoded_refusal}
use Rattle.sample.proofs.RoundTrips.{arrivals-room}
use Rattle.sample.proofs.Output.{output-refused}
use Rattle.cmd_export.proofs.SampleLog.{read-refusal, read-sample, read-sent, read-numbers, read-times, read-lists, log-written}
use Rattle.cmd_export.proofs.log.put_log.Goals as goal

pub returns-then-layout-ne0 : goal.returns-then-layout-ne0
returns-then-layout-ne0 c =
    let octets : Octets c.args.file.now = below-fits w8 c.args.file.now c.type_inv.file in
    output-refused _ _ c.args.out.now c.read-layout.result.refusal
    (read-refusal _ _ _ _ _ _ _ _ c.read-layout.ensures.read_from octets arrivals-room arrivals-room arrivals-room) c.if-layout-ne0.true

pub returns : goal.returns
returns c =
    let f = c.read-layout.ensures.read_from in
    let o : Octets c.args.file.now = below-fits w8 c.args.file.now c.type_inv.file in
    let z = c.if-layout-ne0.false in
    log-written (decode c.args.file.now) c.args.out.now c.write.result _
    (ap decoded_refusal (read-sample _ _ _ _ _ _ _ _ f o arrivals-room arrivals-room arrivals-room z))
    (read-lists _ _ _ _ _ _ _ _ f o arrivals-room arrivals-room arrivals-room z)
    (read-sent _ _ _ _ _ _ _ _ f o arrivals-room arrivals-room arrivals-room z)
    (read-numbers _ _ _ _ _ _ _ _ f o arrivals-room arrivals-room arrivals-room z).1
    (read-times _ _ _ _ _ _ _ _ f o arrivals-room arrivals-room arrivals-room z).1
    c.write.ensures.log_written_to
