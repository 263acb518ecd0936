-- A turn reads arrival i, whose number is at least 1 since the file is accepted (`number-within`), and writes its record to the next 25
-- octets (`write-next`).
use Rattle.std.proofs.Common.{◌≡◌, ℕ, ◌+◌, ◌*◌, ◌≤◌, List, length, get_or, ap, ◌∙◌, arith, w8}
use lib.ListN.{length-take, length-drop}
use native.Mathlib.Nat.{zero-add}
use Rattle.octets.specs.Memory.{put}
use Rattle.octets.proofs.Memory.{taken}
use Rattle.octets.proofs.Below.{below-fits}
use Rattle.rfc4737.specs.declared.Arrival.{Arrival}
use Rattle.sample.specs.Decode.{decode, sample_of}
use Rattle.sample.specs.Places.{no_arrival}
use Rattle.sample.proofs.Accepted.{found-sample, number-within}
use Rattle.sample.proofs.Writing.{write-start, write-next, write_done}
use Rattle.owamp.specs.Record.{record_width}
use Rattle.owamp.specs.Calls.{record_octets, records_of, arrivals_of_file}
use Rattle.owamp.proofs.RoundTrips.{record-long}
use Rattle.owamp.proofs.Writing.{found-many}
use Rattle.owamp.proofs.write_records.Goals as goal

pub loop-i-init : goal.loop-i-init
loop-i-init c =
    let m = found-many c.args.file.now c.args.layout c.requires.0.0 in
    write-start record_octets record_width record-long (arrivals_of_file c.args.file.now) 0 c.args.out.now (omega (arith, m, c.requires.1))

pub put_packet_record-requires : goal.put_packet_record-requires
put_packet_record-requires c =
    let f : List ℕ = c.args.file.now in
    let y = c.args.layout in
    let m = found-many f y c.requires.0.0 in
    let e = ap (λ (x : Arrival). x.number) (c.arrival-arrival.ensures.sample c.requires.0.0 c.loop-i-test.true) in
    let d = found-sample f y c.requires.0.0 c.requires.0.1 in
    let w = (number-within f (sample_of (decode f)) d (below-fits w8 f c.type_inv.file) no_arrival c.loop-i.i (omega (arith, m, c.loop-i-test.true))).0 in
    (omega (arith, e, w), simp (length-take, length-drop) (omega (arith, c.loop-i.auto.out, c.requires.1, c.loop-i-test.true)))

pub loop-i-preserved : goal.loop-i-preserved
loop-i-preserved c =
    let f : List ℕ = c.args.file.now in
    let m = found-many f c.args.layout c.requires.0.0 in
    let xs : List Arrival = arrivals_of_file f in
    let r : 0 + record_width * length xs ≤ length c.args.out.now = omega (arith, m, c.requires.1) in
    let i : ℕ = c.loop-i.i in
    let z : 0 + record_width * i ≡ record_width * i = zero-add (record_width * i) in
    let q : c.put_packet_record.new.lent ≡ put 0 (record_octets (get_or xs i no_arrival))
    (taken (0 + record_width * i) record_width c.loop-i.out) =
    rw z (c.put_packet_record.ensures ∙ ap (λ (x : Arrival). put 0 (record_octets x)
    (taken (record_width * i) record_width c.loop-i.out)) (c.arrival-arrival.ensures.sample c.requires.0.0 c.loop-i-test.true)) in
    let n =
    write-next record_octets record_width record-long xs 0 c.args.out.now r i c.loop-i.invariant no_arrival
    (omega (arith, m, c.loop-i-test.true)) q in
    rw z at n

pub returns : goal.returns
unfolding records_of
returns c =
    let m = found-many c.args.file.now c.args.layout c.requires.0.0 in
    write_done record_octets record_width record-long (arrivals_of_file c.args.file.now) 0 c.args.out.now
    (omega (arith, m, c.requires.1)) c.loop-i.i c.loop-i.invariant (omega (arith, m, c.loop-i-test.false))
