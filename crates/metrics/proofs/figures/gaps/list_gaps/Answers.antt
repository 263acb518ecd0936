-- The gap of record i + 1 is `gap_number`'s (`number_at`). Assumes nothing.
use Rattle.metrics.proofs.GapLists.{last-listed, number_at, numbers-length}
use Rattle.metrics.specs.Gaps.{gap_numbers}
use Rattle.metrics.specs.Private.Steps.{last_to}
use Rattle.metrics.specs.Sample.{answers_of}
use Rattle.octets.proofs.Memory.{fill-next, fill_done}
use Rattle.rfc4737.specs.Arrivals.{firsts}
use Rattle.sample.specs.Decode.{decode}
use borrow.Author.Rules.{rules}
use lib.ListN.{length}
use mathlib.Core.Path.{refl, ◌∙◌, ◌≡◌}
use native.Mathlib.Omega.{arith}
use Rattle.metrics.proofs.figures.gaps.list_gaps.Goals as goal

pub loop-i-init : goal.loop-i-init
unfolding firsts last_to
loop-i-init c = (refl, refl, refl, refl)

pub position_at-position-requires : goal.position_at-position-requires
position_at-position-requires c = (omega arith, c.requires.1, c.loop-i.invariant.1)

pub gap_number-requires : goal.gap_number-requires
gap_number-requires c = last-listed _ _ _ _ c.position_at-position.ensures.next c.loop-i.invariant.2

pub bounds-gaps-i : goal.bounds-gaps-i
bounds-gaps-i c = omega (arith, c.requires.0, c.loop-i.invariant.0)

pub listed_after-listed-requires : goal.listed_after-listed-requires
listed_after-listed-requires c = (c.position_at-position.ensures.next, c.loop-i.invariant.2)

pub loop-i-preserved : goal.loop-i-preserved
loop-i-preserved c =
    let l = c.loop-i in
    let p = c.position_at-position.ensures in
    let n = numbers-length _ _ c.args.file.now.laid in
    let x = number_at _ _ c.args.file.now.laid l.i _ _ (omega arith) (c.gap_number.ensures _ c.requires.2) p.is in (
      search rules,
      c.listed_after-listed.ensures.0 ∙ p.after,
      c.listed_after-listed.ensures.1,
      fill-next (gap_numbers (answers_of (decode c.args.file.now.file.now))) _ l.i 0 (omega (arith, n)) (omega (arith, c.requires.0)) l.invariant.3 x,
    )

pub returns : goal.returns
returns c =
    let l = c.loop-i in
    let n = numbers-length (decode c.args.file.now.file.now) _ c.args.file.now.laid in
    let e : length (gap_numbers (answers_of (decode c.args.file.now.file.now))) ≡ l.i = omega (arith, n) in
    fill_done (gap_numbers (answers_of (decode c.args.file.now.file.now))) _ l.i e l.invariant.3
