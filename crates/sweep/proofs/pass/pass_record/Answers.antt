-- `sweep::pass::pass_record` meets its contract: it reads the number of record i + 1 and the mark of its packet (`known`). A mark over 4,096
-- means a copy. A number from NextExp on is in order. Any other record is reordered; its mark is the record of its discontinuity, and its time is
-- before or after that of the discontinuity. In each case one law gives the figures (`figures-copy`, `figures-in-order`, `figures-late`) and one
-- the table (`held-copy`, `held-in-order`, `held-late`). Assumes nothing.
use Rattle.std.proofs.Common.{arith, refl, lt-ltb, le-ltb}
use Rattle.rfc4737.specs.Times.{elapsed}
use Rattle.sweep.proofs.Records.{few, jump-inside, jump-before, figures-copy, figures-in-order, figures-late, held-copy, held-late, held-in-order, rest-late, rest-in-order, known-record}
use Rattle.sweep.proofs.pass.pass_record.Goals as goal

pub returns-then-mark-gt-MAX_RECORD : goal.returns-then-mark-gt-MAX_RECORD
returns-then-mark-gt-MAX_RECORD c =
    let r = c.requires in
    let k = known-record _ _ _ _ (record { file = c.args.checked.now.laid; inside = r.0 }) r.1 _ c.arrival_at-arrival.ensures in
    let copied = c.if-mark-gt-MAX_RECORD.true in
    (held-copy _ _ _ _ _ _ k _ r.1 copied, refl, (rw (figures-copy _ _ _ _ _ _ k copied) at c.put.ensures.0, c.put.ensures.1))

pub overflow_add-count : goal.overflow_add-count
overflow_add-count c =
    let r = c.requires in
    let k = known-record _ _ _ _ (record { file = c.args.checked.now.laid; inside = r.0 }) r.1 _ c.arrival_at-arrival.ensures in
    record { fits = omega (arith, few _ _ _ _ _ _ k) }

pub overflow_sub-from : goal.overflow_sub-from
overflow_sub-from c =
    let r = c.requires in
    let k = known-record _ _ _ _ (record { file = c.args.checked.now.laid; inside = r.0 }) r.1 _ c.arrival_at-arrival.ensures in
    (few _ _ _ _ _ _ k).2

pub returns-then-next-number : goal.returns-then-next-number
returns-then-next-number c =
    let r = c.requires in
    let k = known-record _ _ _ _ (record { file = c.args.checked.now.laid; inside = r.0 }) r.1 _ c.arrival_at-arrival.ensures in
    let new = c.if-mark-gt-MAX_RECORD.false in
    let ahead = c.if-next-number.true in
    let f = c.note_skipped.ensures in (
      held-in-order _ _ _ _ _ _ k _ r.1 ahead _ f new,
      rest-in-order _ _ _ _ _ _ k _ r.1 ahead _ f,
      (rw (figures-in-order _ _ _ _ _ _ k new ahead) at c.put-then-next-number.ensures.0, c.put-then-next-number.ensures.1),
    )

pub overflow_sub-jump : goal.overflow_sub-jump
overflow_sub-jump c =
    let r = c.requires in
    let k = known-record _ _ _ _ (record { file = c.args.checked.now.laid; inside = r.0 }) r.1 _ c.arrival_at-arrival.ensures in
    (jump-inside _ _ _ _ _ _ k c.if-mark-gt-MAX_RECORD.false c.if-next-number.false).0

pub bounds-lists-jump : goal.bounds-lists-jump
bounds-lists-jump c =
    let r = c.requires in
    let k = known-record _ _ _ _ (record { file = c.args.checked.now.laid; inside = r.0 }) r.1 _ c.arrival_at-arrival.ensures in
    omega (arith, jump-inside _ _ _ _ _ _ k c.if-mark-gt-MAX_RECORD.false c.if-next-number.false, r.2.positions)

pub overflow_sub-extent : goal.overflow_sub-extent
overflow_sub-extent c =
    let r = c.requires in
    let k = known-record _ _ _ _ (record { file = c.args.checked.now.laid; inside = r.0 }) r.1 _ c.arrival_at-arrival.ensures in
    omega (arith, jump-before _ _ _ _ _ _ k _ r.3 c.if-mark-gt-MAX_RECORD.false c.if-next-number.false)

pub arrival_at-past-requires : goal.arrival_at-past-requires
arrival_at-past-requires c =
    let r = c.requires in
    let k = known-record _ _ _ _ (record { file = c.args.checked.now.laid; inside = r.0 }) r.1 _ c.arrival_at-arrival.ensures in
    let j = jump-inside _ _ _ _ _ _ k c.if-mark-gt-MAX_RECORD.false c.if-next-number.false in
    omega (arith, j, r.0)

pub returns-then-own-past : goal.returns-then-own-past
unfolding elapsed
returns-then-own-past c =
    let r = c.requires in
    let k = known-record _ _ _ _ (record { file = c.args.checked.now.laid; inside = r.0 }) r.1 _ c.arrival_at-arrival.ensures in
    let new = c.if-mark-gt-MAX_RECORD.false in
    let late = c.if-next-number.false in
    let e =
    rw (lt-ltb _ _ c.if-own-past.true) at
    (figures-late _ _ _ _ _ _ k _ r.3 new late _ _ c.arrival_at-past.ensures.0 c.arrival_at-arrival.ensures.0) in
    (held-late _ _ _ _ _ _ k _ r.1 new late, rest-late _ _ _ _ _ _ k _ r.1, (rw e at c.put-then-own-past.ensures.0, c.put-then-own-past.ensures.1))

pub returns : goal.returns
unfolding elapsed
returns c =
    let r = c.requires in
    let k = known-record _ _ _ _ (record { file = c.args.checked.now.laid; inside = r.0 }) r.1 _ c.arrival_at-arrival.ensures in
    let new = c.if-mark-gt-MAX_RECORD.false in
    let late = c.if-next-number.false in
    let e =
    rw (le-ltb _ _ c.if-own-past.false) at
    (figures-late _ _ _ _ _ _ k _ r.3 new late _ _ c.arrival_at-past.ensures.0 c.arrival_at-arrival.ensures.0) in
    (held-late _ _ _ _ _ _ k _ r.1 new late, rest-late _ _ _ _ _ _ k _ r.1, (rw e at c.put-2.ensures.0, c.put-2.ensures.1))
