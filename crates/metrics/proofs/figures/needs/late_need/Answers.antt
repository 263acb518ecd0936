-- Measure by measure: the extent is known by the class (`need-packets`), the byte offset by the tree, as the packet has not arrived
-- (`need-octets`), and the late time by the record of the discontinuity (`need-time`). Assumes nothing.
use Rattle.metrics.proofs.Accommodation.{need-filling, need-octets, need-packets, need-time}
use Rattle.metrics.proofs.AnswersByClass.{late-offset, late-place}
use Rattle.metrics.proofs.TablesFollow.{number-few, numbered-le}
use Rattle.metrics.specs.Records.{before}
use Rattle.metrics.specs.Sample.{size_of}
use Rattle.rfc4737.specs.Arrivals.{firsts}
use Rattle.rfc4737.specs.Extent.{byte_offset}
use Rattle.rfc4737.specs.declared.Arrival.{Arrival}
use Rattle.sample.specs.Decode.{decode}
use mathlib.Core.Path.{ap, ◌∙◌}
use native.Mathlib.Omega.{arith}
use Rattle.metrics.proofs.figures.needs.late_need.Goals as goal

pub overflow_add-result : goal.overflow_add-result
overflow_add-result c = let p = c.requires in omega (arith, numbered-le _ _ _ p.there _ _ p.numbered)

pub overflow_sub-result : goal.overflow_sub-result
overflow_sub-result c =
    let p = c.requires in omega (arith, late-place _ _ _ _ _ p.there p.classed _ _ p.numbered p.recorded)

pub offset-requires : goal.offset-requires
offset-requires c =
    let p = c.requires in
    let n = number-few _ _ _ p.there _ p.is in
    (need-filling _ _ _ _ _ _ _ _ p, n.1, n.2)

pub late_time-requires : goal.late_time-requires
late_time-requires c =
    let p = c.requires in (p.there.inside, p.classed, p.numbered, p.recorded, ap (λ (a : Arrival). a.time) p.is)

pub returns-in-Packets : goal.returns-in-Packets
returns-in-Packets c = let p = c.requires in (rw c.in-Packets.is (need-packets _ _ _ p.classed), p.totalled)

pub returns-in-Octets : goal.returns-in-Octets
returns-in-Octets c =
    let p = c.requires in
    let n = number-few _ _ _ p.there _ p.is in
    let made = c.offset.ensures _ p.numbered p.totalled in
    let is = made.1 p.new ∙ ap (byte_offset (size_of (decode c.args.file.now.file.now)) (firsts (before (decode c.args.file.now.file.now) c.args.i))) n.0 in (
      rw c.in-Octets.is (need-octets _ _ _ p.classed _ (late-offset _ _ _ _ _ p.there p.classed _ _ p.numbered p.recorded _ is)),
      made.0,
    )

pub returns-in-Time : goal.returns-in-Time
returns-in-Time c =
    let p = c.requires in
    (rw c.in-Time.is (need-time _ _ _ p.classed _ _ c.late_time.ensures c.waiting_time.ensures), p.totalled)
