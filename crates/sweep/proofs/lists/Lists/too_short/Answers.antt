-- `sweep::lists::Lists::too_short` meets its contract: each return is one part of `lent_short` where the parts before it do not hold. Assumes nothing.
use Rattle.std.proofs.Common.{lt-ltb, le-ltb}
use Rattle.sweep.specs.Calls.{lent_short}
use Rattle.sweep.proofs.lists.Lists.too_short.Goals as goal

pub returns-then-table-lt-PACKET_TABLE_LEN : goal.returns-then-table-lt-PACKET_TABLE_LEN
unfolding lent_short
returns-then-table-lt-PACKET_TABLE_LEN c = simp (lt-ltb _ _ c.if-table-lt-PACKET_TABLE_LEN.true)

pub returns-then-self-count : goal.returns-then-self-count
unfolding lent_short
returns-then-self-count c = simp (le-ltb _ _ c.if-table-lt-PACKET_TABLE_LEN.false, lt-ltb _ _ c.if-self-count.true)

pub returns-then-self-count-2 : goal.returns-then-self-count-2
unfolding lent_short
returns-then-self-count-2 c =
    simp (
      le-ltb _ _ c.if-table-lt-PACKET_TABLE_LEN.false,
      le-ltb _ _ c.if-self-count.false,
      lt-ltb _ _ c.if-self-count-2.true,
    )

pub returns-then-self-count-3 : goal.returns-then-self-count-3
unfolding lent_short
returns-then-self-count-3 c =
    simp (
      le-ltb _ _ c.if-table-lt-PACKET_TABLE_LEN.false,
      le-ltb _ _ c.if-self-count.false,
      le-ltb _ _ c.if-self-count-2.false,
      lt-ltb _ _ c.if-self-count-3.true,
    )

pub returns : goal.returns
unfolding lent_short
returns c =
    simp (
      le-ltb _ _ c.if-table-lt-PACKET_TABLE_LEN.false,
      le-ltb _ _ c.if-self-count.false,
      le-ltb _ _ c.if-self-count-2.false,
      le-ltb _ _ c.if-self-count-3.false,
    )
