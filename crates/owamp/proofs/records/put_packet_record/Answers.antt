-- Seven numbers written one after the other into 25 octets are one put of the record.
use Rattle.owamp.proofs.Writing.{record-put}
use Rattle.owamp.proofs.records.put_packet_record.Goals as goal

pub returns : goal.returns
returns c =
    let a = c.args in
    record-put a.number a.time a.lent.now c.requires.1 c.put_number.ensures.out_after c.put_number-2.ensures.out_after
    c.put_number-3.ensures.out_after c.put_number-4.ensures.out_after c.seconds_of.ensures c.put_number-5.ensures.out_after
    c.fraction_of.ensures c.put_number-6.ensures.out_after c.put_number-7.ensures.out_after
