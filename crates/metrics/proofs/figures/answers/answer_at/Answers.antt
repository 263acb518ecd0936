-- The class by the tables is the answer's (`told`); before the discontinuity of a reordered packet no packet is greater (`alone-told`).
-- Assumes nothing.
use Prim.Native.Nat.{◌-◌}
use Rattle.metrics.proofs.AnswersByClass.{late-both, packets, told}
use Rattle.metrics.proofs.OneArrivalMore.{alone-told, inside-told}
use Rattle.metrics.proofs.TablesFollow.{here}
use Rattle.metrics.specs.Records.{before}
use Rattle.metrics.specs.Sample.{size_of}
use Rattle.rfc4737.specs.Arrivals.{firsts}
use Rattle.rfc4737.specs.Extent.{byte_offset, largest_n}
use Rattle.rfc4737.specs.declared.Arrival.{Arrival}
use Rattle.sample.specs.Decode.{decode}
use lib.ListN.{take}
use mathlib.Core.Path.{ap, ◌∙◌}
use native.Mathlib.Omega.{arith}
use Rattle.metrics.proofs.figures.answers.answer_at.Goals as goal

pub late_figures-late-requires : goal.late_figures-late-requires
late_figures-late-requires c =
    let p = c.requires in
    let e = c.arrival_at-arrival.ensures in
    let n = ap (λ (a : Arrival). a.number) e.0 in
    let k = packets _ _ c.args.i c.args.file.now.laid _ _ p.1.numbered (omega (arith, p.0)) in
    (k.0, k.1, inside-told _ _ _ (here c.args.file.now.laid c.args.i c.requires.0) _ _ _ _ p.1 _ (told (decode c.args.file.now.file.now) c.args.i _ _ _ _ p.1 _ n e.1 e.2 _ c.class_of-class.ensures))

pub answer_by-requires : goal.answer_by-requires
answer_by-requires c =
    let p = c.requires in
    let e = c.arrival_at-arrival.ensures in
    let n = ap (λ (a : Arrival). a.number) e.0 in
    let size = size_of (decode c.args.file.now.file.now) in
    let fs = firsts (before (decode c.args.file.now.file.now) c.args.i) in
    let t = told (decode c.args.file.now.file.now) c.args.i _ _ _ _ p.1 _ n e.1 e.2 _ c.class_of-class.ensures in (
      p.0,
      e.0,
      p.1.numbered,
      p.1.recorded,
      t,
      late-both c.class_of-class.result
          (λ at alone s. (
            s.0 (ap (byte_offset size (take (at - 1) fs)) n ∙ alone) ∙ ap (byte_offset size fs) n,
            s.1 ∙ ap (largest_n fs) n,
          ))
          (alone-told _ _ _ (here c.args.file.now.laid c.args.i c.requires.0) _ _ _ _ p.1 _ t) (c.late_figures-late.ensures fs p.1.numbered),
    )
