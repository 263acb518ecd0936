-- With a refusal the list stays (`gaps-refused`, `gaps-eight`); else it is filled (`gaps-filled`). Assumes nothing.
use Prim.Native.Nat.{ℕ}
use Rattle.metrics.proofs.GapLists.{gaps-eight, gaps-filled, gaps-refused, gaps-tell}
use Rattle.metrics.specs.Records.{FileLayout}
use Rattle.sample.proofs.Accepted.{found-sample}
use Rattle.sample.specs.Decode.{accepted, decode, sample_of}
use Rattle.sample.specs.declared.Layout.{Layout}
use borrow.Author.Tests.{le-ltb, lt-ltb}
use mathlib.Core.List.{List}
use mathlib.Core.Path.{sym, ◌≡◌}
use Rattle.metrics.proofs.record_gaps.Goals as goal

accepted-of : (file : List ℕ) (layout : Layout) → FileLayout (decode file) layout → layout.refusal ≡ 0
    → decode file ≡ accepted (sample_of (decode file))
accepted-of file layout h z = found-sample _ _ h.laid z

pub returns-then-layout-ne-NONE-clause-gaps_to : goal.returns-then-layout-ne-NONE-clause-gaps_to
returns-then-layout-ne-NONE-clause-gaps_to c =
    rw (← c.new-file.ensures) (gaps-refused _ _ c.new-file.result.laid.laid c.if-layout-ne-NONE.true _)

pub returns-then-gaps-layout-clause-gaps_to : goal.returns-then-gaps-layout-clause-gaps_to
returns-then-gaps-layout-clause-gaps_to c =
    let h = c.new-file.result.laid in
    rw (← c.new-file.ensures) (gaps-eight _ _ h (accepted-of _ _ h c.if-layout-ne-NONE.false) _ (sym (lt-ltb _ _ c.if-gaps-layout.true)) _
    (rw c.number.ensures at c.refused_layout.ensures))

pub returns-clause-gaps_to : goal.returns-clause-gaps_to
returns-clause-gaps_to c =
    let h = c.new-file.result.laid in
    rw (← c.new-file.ensures) (gaps-filled _ _ h (accepted-of _ _ h c.if-layout-ne-NONE.false) _ (sym (le-ltb _ _ c.if-gaps-layout.false)) _
    c.put_gaps.ensures)

pub returns-then-layout-ne-NONE-clause-tell : goal.returns-then-layout-ne-NONE-clause-tell
returns-then-layout-ne-NONE-clause-tell c = gaps-tell

pub returns-then-gaps-layout-clause-tell : goal.returns-then-gaps-layout-clause-tell
returns-then-gaps-layout-clause-tell c = gaps-tell

pub returns-clause-tell : goal.returns-clause-tell
returns-clause-tell c = gaps-tell
