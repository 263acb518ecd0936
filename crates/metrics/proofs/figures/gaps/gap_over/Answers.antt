-- With no discontinuity before there is no gap (`gap-first`); with one it depends on which was discovered first (`gap-near`). Assumes
-- nothing.
use Prim.Native.Nat.{◌-◌}
use Rattle.metrics.proofs.Discovered.{gap-first, gap-near, gap_other, known-is, known-none, last-le}
use borrow.Author.Tests.{le-ltb, lt-ltb}
use mathlib.Core.Bool.{false, true}
use mathlib.Core.Path.{refl, ◌≡◌}
use native.Mathlib.Omega.{arith}
use Rattle.metrics.proofs.figures.gaps.gap_over.Goals as goal

pub returns-then-discoverers-place-eq0 : goal.returns-then-discoverers-place-eq0
returns-then-discoverers-place-eq0 c =
    let p = c.requires in λ l m. gap_other l _ m _ p.0 p.1 c.if-discoverers-place-eq0.true

pub returns-in_default : goal.returns-in_default
returns-in_default c =
    let p = c.requires in
    λ l m. gap-first l _ m _ p.0 p.1 _ refl (known-none _ (rw c.in_default.is at p.2))

pub bounds-discoverers-neighbour : goal.bounds-discoverers-neighbour
bounds-discoverers-neighbour c =
    omega (arith, known-is _ _ (rw c.in-Some.is at c.requires.2), last-le c.args.discoverers.now (c.args.p - 1))

pub overflow_sub-result : goal.overflow_sub-result
overflow_sub-result c =
    omega (arith, known-is _ _ (rw c.in-Some.is at c.requires.2), last-le c.args.discoverers.now (c.args.p - 1))

pub returns-then-discoverers-neighbour : goal.returns-then-discoverers-neighbour
returns-then-discoverers-neighbour c =
    let p = c.requires in
    let b = known-is _ _ (rw c.in-Some.is at p.2) in
    λ l m. gap-near l _ m _ p.0 p.1 _ b.0 true (λ (z : c.in-Some.last ≡ 0). omega (arith, b.1)) (lt-ltb _ _ c.if-discoverers-neighbour.true)

pub returns : goal.returns
returns c =
    let p = c.requires in
    let b = known-is _ _ (rw c.in-Some.is at p.2) in
    λ l m. gap-near l _ m _ p.0 p.1 _ b.0 false (λ (z : c.in-Some.last ≡ 0). omega (arith, b.1)) (le-ltb _ _ c.if-discoverers-neighbour.false)
