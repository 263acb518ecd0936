-- `disorder::pairs::disorder_in` meets its contract. The table tells whether record i + 1 is a first arrival (`firsts-seen`), and
-- `pairs_after` adds it then. Assumes nothing.
use Rattle.std.proofs.Common.{arith, sym, ap, subst, List, ℕ}
use Rattle.rfc4737.specs.declared.Arrival.{Arrival}
use Rattle.rfc4737.specs.Arrivals.{firsts}
use Rattle.rfc4737.proofs.Arrivals.{length-firsts}
use Rattle.sample.specs.Decode.{decode}
use Rattle.metrics.specs.Records.{before, HasRecord}
use Rattle.metrics.proofs.TablesFollow.{before-length}
use Rattle.metrics.proofs.FoundInFile.{arrival-known}
use Rattle.disorder.specs.Private.{PairTree}
use Rattle.disorder.proofs.DisorderInFile.{paired-start, arrived-start, arrived-next, firsts-seen, disorder-end}
use Rattle.disorder.proofs.pairs.disorder_in.Goals as goal

pub loop-i-init : goal.loop-i-init
loop-i-init c =
    let d = decode c.args.file.now in
    let k = c.args.layout.sent in (
      arrived-start d,
      subst (λ (tree : List ℕ). PairTree k (firsts (before d 0)) tree c.default-p.result) (sym c.requires.1)
          (paired-start k d c.default-p.result c.default-p.ensures),
    )

pub overflow_cast-at : goal.overflow_cast-at
overflow_cast-at c =
    let k = arrival-known _ _ c.requires.0 _ c.loop-i-test.true c.arrival-number.ensures.sample in
    record { fits = omega (arith, k.2) }

pub bounds-seen-at : goal.bounds-seen-at
bounds-seen-at c =
    let f = c.requires.0 in
    let k = arrival-known _ _ f _ c.loop-i-test.true c.arrival-number.ensures.sample in
    omega (arith, k.2)

pub pairs_after-p-requires : goal.pairs_after-p-requires
pairs_after-p-requires c =
    let f = c.requires.0 in
    let n = arrival-known _ _ f _ c.loop-i-test.true c.arrival-number.ensures.sample in
    let k = c.loop-i.invariant.1 in
    let h : HasRecord (decode c.args.file.now) c.args.layout c.loop-i.i = record { file = f; inside = c.loop-i-test.true } in (
      n.1,
      omega (arith, ap (λ (a : Arrival). a.number) n.0, (f.numbers _ c.loop-i-test.true).1, k.places),
      record {
        k = _;
        fs = _;
        paired = k;
        few = omega (arith, k.count, length-firsts (before (decode c.args.file.now) c.loop-i.i), before-length _ _ _ h, c.loop-i-test.true, f.few);
      },
    )

pub loop-i-preserved : goal.loop-i-preserved
loop-i-preserved c =
    let f = c.requires.0 in
    let n = arrival-known _ _ f _ c.loop-i-test.true c.arrival-number.ensures.sample in
    let e = ap (λ (a : Arrival). a.number) n.0 in
    let h : HasRecord (decode c.args.file.now) c.args.layout c.loop-i.i = record { file = f; inside = c.loop-i-test.true } in
    let l = c.loop-i.invariant in (
      arrived-next _ _ _ h _ l.0 _ e n.2,
      rw (firsts-seen _ _ _ h _ l.0 _ e n.2) (c.pairs_after-p.ensures _ _ _ (sym e) l.1),
    )

pub returns : goal.returns
returns c = disorder-end _ _ _ c.requires.0 (omega arith) _ _ _ c.loop-i.invariant.1
