-- The record of its packet in the whole sample is i + 1 exactly if it is a first arrival (`position-new`, `position-copy`). Assumes
-- nothing.
use Prim.Native.Nat.{ℕ}
use Rattle.metrics.proofs.GapLists.{next-few, position-copy, position-new}
use Rattle.metrics.proofs.TablesFollow.{here}
use Rattle.metrics.specs.Sample.{sample_arrivals}
use Rattle.rfc4737.specs.Arrivals.{first_record}
use Rattle.sample.specs.Decode.{decode}
use mathlib.Core.Path.{ap, ◌∙◌}
use native.Mathlib.Omega.{arith}
use Rattle.metrics.proofs.figures.gaps.position_at.Goals as goal

pub overflow_add-result : goal.overflow_add-result
overflow_add-result c = omega (arith, next-few _ _ _ (here c.args.file.now.laid c.args.i c.requires.0) _ c.requires.2)

pub returns-then-records-packet : goal.returns-then-records-packet
returns-then-records-packet c =
    let n = c.number_of-packet.ensures in
    let e = c.requires.1.at _ n.1 n.2 ∙ ap (λ (s : ℕ). first_record s (sample_arrivals (decode c.args.file.now.file.now))) n.0 in
    position-new _ _ _ (here c.args.file.now.laid c.args.i c.requires.0) _ e _ c.requires.2 c.if-records-packet.true

pub returns : goal.returns
returns c =
    let n = c.number_of-packet.ensures in
    let e = c.requires.1.at _ n.1 n.2 ∙ ap (λ (s : ℕ). first_record s (sample_arrivals (decode c.args.file.now.file.now))) n.0 in
    position-copy _ _ _ (here c.args.file.now.laid c.args.i c.requires.0) _ e _ c.requires.2 c.if-records-packet.false
