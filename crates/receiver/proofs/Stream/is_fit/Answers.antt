-- A return of false shows a condition that fails, and where none of the others does, NextExp decides.
use Rattle.std.proofs.Common.{◌≡◌, ◌-◌, ◌≤◌, false, not, refl, ◌∙◌, eqb, arith}
use borrow.Author.Tests.{leb-true, le-leb}
use Rattle.receiver.proofs.Fits.{stream-decides, stream-false}
use Rattle.receiver.proofs.Stream.is_fit.Goals as goal
use Rattle.receiver.proofs.Stream.is_fit.Goals.{
  then-self-eq0-via-then-self-eq0,
  then-self-eq0-via-else-self-eq0+then-self-gt-PACKETS,
  then-self-via-then-self,
  then-self-via-else-self+then-self-2,
  then-self-3-via-then-self-3,
  then-self-3-via-else-self-3+then-self-4,
  then-self-5-via-then-self-5,
  then-self-5-via-else-self-5+then-self-gt-SQUARES_MOST,
}

pub returns-then-self-eq0 : goal.returns-then-self-eq0
returns-then-self-eq0 c =
    elim c.then-self-eq0.branch [
      | then-self-eq0-via-then-self-eq0 w ↦ stream-false _ (λ h. omega arith)
      | then-self-eq0-via-else-self-eq0+then-self-gt-PACKETS w ↦ stream-false _ (λ h. omega arith)
    ]

pub returns-then-self : goal.returns-then-self
returns-then-self c =
    elim c.then-self.branch [
      | then-self-via-then-self w ↦ stream-false _ (λ h. omega arith)
      | then-self-via-else-self+then-self-2 w ↦ stream-false _ (λ h. omega arith)
    ]

pub returns-then-self-3 : goal.returns-then-self-3
returns-then-self-3 c =
    elim c.then-self-3.branch [
      | then-self-3-via-then-self-3 w ↦ stream-false _ (λ h. omega arith)
      | then-self-3-via-else-self-3+then-self-4 w ↦ stream-false _ (λ h. omega arith)
    ]

pub returns-then-self-5 : goal.returns-then-self-5
returns-then-self-5 c =
    elim c.then-self-5.branch [
      | then-self-5-via-then-self-5 w ↦ stream-false _ (λ h. omega arith)
      | then-self-5-via-else-self-5+then-self-gt-SQUARES_MOST w ↦ stream-false _ (λ h. omega arith)
    ]

pub returns-then-self-ne0 : goal.returns-then-self-ne0
returns-then-self-ne0 c =
    stream-decides _ _ (λ e. let k : c.args.self.now.next - 1 ≤ c.args.self.now.sent = leb-true _ _ e in omega arith)
    (λ h. le-leb _ _ (omega arith))

pub returns-else-self-ne0 : goal.returns-else-self-ne0
returns-else-self-ne0 c =
    let e : not (eqb c.args.self.now.next 0) ≡ false = rw c.if-self-ne0.false refl in
    e ∙ stream-false _ (λ h. omega arith)
