-- A turn writes the next number found (`fill-next`).
use Rattle.std.proofs.Common.{ℕ, ◌≡◌, ◌<◌, refl, ap, ◌∙◌, arith, length}
use Rattle.octets.proofs.Memory.{fill-next, fill_done}
use Rattle.shortnumbers.specs.declared.Finder.{Finder}
use Rattle.shortnumbers.specs.InTurn.{greatest_of}
use Rattle.shortnumbers.specs.Lists.{numbers_found}
use Rattle.shortnumbers.proofs.Lists.{found-length, found_here, greatest-next}
use Rattle.shortnumbers.proofs.fill_numbers.Goals as goal

pub loop-i-init : goal.loop-i-init
unfolding greatest_of
loop-i-init c = record { range = refl; few = omega arith; greatest = refl; filled = refl }

pub loop-i-preserved : goal.loop-i-preserved
loop-i-preserved c =
    let i = c.loop-i.invariant in
    let n = rw i.range at c.find.ensures.number in
    let g : c.find.new.self.greatest ≡ _ = ap (λ (f : Finder). f.greatest) c.find.ensures.greatest in
    let lt : c.loop-i.i < length c.args.shorts.now = c.loop-i-test.true in
    let m = found-length c.args.range c.args.shorts.now in record {
      range = ap (λ (f : Finder). f.range) c.find.ensures.greatest ∙ i.range;
      few = omega (arith, g, c.find.ensures.near, i.few);
      greatest = greatest-next _ _ _ _ _ lt i.greatest n _ g;
      filled = fill-next (numbers_found c.args.range c.args.shorts.now) c.args.numbers.now c.loop-i.i 0 (omega arith)
          (omega (arith, c.requires.2)) i.filled (found_here _ _ _ _ _ lt i.greatest n);
    }

pub returns : goal.returns
returns c =
    let m = found-length c.args.range c.args.shorts.now in
    fill_done (numbers_found c.args.range c.args.shorts.now) c.args.numbers.now c.loop-i.i
    (omega (arith, c.loop-i-test.false)) c.loop-i.invariant.filled
