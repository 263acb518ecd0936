-- the greatest is that of the first i numbers found, at most 512 for each, and the list holds them, then what it held
use Rattle.std.proofs.Common.{◌≡◌, ◌≤◌, ◌*◌, ◌++◌, take, drop}
use Rattle.shortnumbers.specs.InTurn.{greatest_of}
use Rattle.shortnumbers.specs.Lists.{numbers_found}
use Rattle.shortnumbers.proofs.fill_numbers.Given as goal

abbrev pub invariant-loop-i : goal.invariant-loop-i
invariant-loop-i l = record {
  range : l.finder.range ≡ l.range;
  few : l.finder.greatest ≤ 512 * l.i;
  greatest : l.finder.greatest ≡ greatest_of (take l.i (numbers_found l.range l.shorts));
  filled : l.numbers ≡ take l.i (numbers_found l.range l.shorts) ++ drop l.i l.fn.numbers;
}
