-- `table::whole::Part::put_records` meets its contract: the next record is written from its row (`record-written`) and put after those before it
-- (`records-next`). Assumes nothing.
use Rattle.std.proofs.Common.{◌≡◌, ◌<◌, ◌≤◌, ◌-◌, ◌*◌, length, ap, arith}
use Rattle.octets.proofs.Memory.{taken}
use Rattle.rfc4737.specs.declared.Answer.{Answer}
use Rattle.sample.specs.Decode.{decode}
use Rattle.metrics.specs.Rows.{row_of}
use Rattle.metrics.specs.Records.{arrival_at}
use Rattle.metrics.proofs.FoundInFile.{arrival-known}
use Rattle.writing.proofs.Put.{put_then, put-named, put-octets}
use Rattle.table.specs.Text.{row_text, record_text}
use Rattle.table.proofs.FromRows.{records-next, record-written}
use Rattle.table.proofs.whole.Part.put_records.Goals as goal

pub loop-i-preserved : goal.loop-i-preserved
loop-i-preserved c =
    let s = c.args.self.now in
    let l = c.loop-i in
    let d = decode s.file.now in
    let inside : l.i < s.layout.arrivals = omega arith in
    let low : c.args.from ≤ l.i = omega arith in
    let arrival : c.arrival-arrival.result ≡ arrival_at d l.i = (arrival-known _ _ c.args.self.now.laid _ inside c.arrival-arrival.ensures.sample).0 in
    let line : (x : Answer) → taken (8 * (l.i - c.args.from)) 8 s.rows.now ≡ row_of x → c.octets-text.result.now ≡ row_text s.json l.i c.arrival-arrival.result x =
    λ x h. simp (c.octets-text.ensures, c.write_record.ensures.written x h, c.clear.ensures) in
    let text : c.octets-text.result.now ≡ record_text s.json d l.i =
    record-written s.json d c.args.from c.args.to s.rows.now l.i c.requires.0 low c.loop-i-test.true arrival line in
    record {
      room = omega (arith, l.invariant.room, ap length c.octets-text.ensures, c.write_record.ensures.room, ap length c.clear.ensures);
      put =
          put-named (records-next s.json d c.args.from l.i low)
          (put_then l.invariant.put (put-named text (put-octets c.put_octets.ensures)));
    }
