-- The class by the tables is the answer's (`told`). `late_figures` returns a reordered packet's byte offset, as it has not arrived
-- (`new_told`), and its largest n; `answer_by` makes the answer from them. Noting the record then gives the state after it
-- (`engine-next`). Assumes nothing.
use Rattle.metrics.proofs.AnswersByClass.{late-both, new_told, told}
use Rattle.metrics.proofs.EngineState.{engine-filling, engine-next, links-laid}
use Rattle.metrics.proofs.NotingArrivals.{noting}
use Rattle.metrics.proofs.TablesFollow.{here, number-few}
use Rattle.metrics.specs.Records.{before}
use Rattle.metrics.specs.Sample.{size_of}
use Rattle.rfc4737.specs.Arrivals.{firsts}
use Rattle.rfc4737.specs.Extent.{byte_offset, largest_n}
use Rattle.sample.specs.Decode.{decode}
use mathlib.Core.Path.{ap, ◌∙◌}
use Rattle.metrics.proofs.engine.Engine.advance.Goals as goal

pub class_of-class-requires : goal.class_of-class-requires
class_of-class-requires c = (number-few _ _ _ (here c.args.file.now.laid c.args.i c.requires.0) _ c.requires.1).2

pub late_figures-late-requires : goal.late_figures-late-requires
late_figures-late-requires c =
    let p = c.requires in
    let n = number-few _ _ _ (here c.args.file.now.laid c.args.i c.requires.0) _ p.1 in
    (engine-filling _ _ _ (here c.args.file.now.laid c.args.i c.requires.0) _ p.2, n.1, n.2, (links-laid _ _ _ (here c.args.file.now.laid c.args.i c.requires.0) _ _ _ _ p.2.follows.numbered p.2.linked).1)

pub answer_by-answer-requires : goal.answer_by-answer-requires
answer_by-answer-requires c =
    let p = c.requires in
    let n = number-few _ _ _ (here c.args.file.now.laid c.args.i c.requires.0) _ p.1 in
    let fs = firsts (before (decode c.args.file.now.file.now) c.args.i) in
    let f = p.2.follows in
    let e = c.class_of-class.ensures in
    let late = c.late_figures-late.ensures.1 fs f.numbered p.2.totalled in (
      p.0,
      p.1,
      f.numbered,
      f.recorded,
      told (decode c.args.file.now.file.now) c.args.i _ _ _ _ f _ n.0 n.1 n.2 _ e,
      late-both c.class_of-class.result (λ at new l. (l.1 new ∙ ap (byte_offset (size_of (decode c.args.file.now.file.now)) fs) n.0, l.0 ∙ ap (largest_n fs) n.0))
          (new_told (decode c.args.file.now.file.now) c.args.i _ _ _ _ f _ n.0 n.1 n.2 _ e) late.1,
    )

pub note-self-requires : goal.note-self-requires
note-self-requires c = noting _ _ _ (here c.args.file.now.laid c.args.i c.requires.0) _ _ _ _ c.requires.2.follows _ (number-few _ _ _ (here c.args.file.now.laid c.args.i c.requires.0) _ c.requires.1).0

pub returns : goal.returns
returns c =
    let p = c.requires in
    let n = number-few _ _ _ (here c.args.file.now.laid c.args.i c.requires.0) _ p.1 in
    let f = p.2.follows in
    let e = c.class_of-class.ensures in
    let late = c.late_figures-late.ensures.1 _ f.numbered p.2.totalled in (
      c.answer_by-answer.ensures,
      told (decode c.args.file.now.file.now) c.args.i _ _ _ _ f _ n.0 n.1 n.2 _ e,
      engine-next _ _ _ (here c.args.file.now.laid c.args.i c.requires.0) _ _ _ _ f _ n.0 n.1 n.2 _ e _ _ late.1 _ _ _ _ c.note-self.ensures _ p.2.linked late.0,
    )
