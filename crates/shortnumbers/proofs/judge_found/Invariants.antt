-- the greatest is that of the first i numbers found, at most 512 for each, and judging all arrivals is judging what is left of them from
-- the reference
use Rattle.std.proofs.Common.{◌≡◌, ◌≤◌, ◌*◌, take, drop}
use Rattle.rfc4737.specs.Judge.{arrivals_from, judge}
use Rattle.shortnumbers.specs.InTurn.{greatest_of}
use Rattle.shortnumbers.specs.Lists.{numbers_found}
use Rattle.shortnumbers.proofs.judge_found.Given as goal

abbrev pub invariant-loop-i : goal.invariant-loop-i
invariant-loop-i l = record {
  range : l.finder.range ≡ l.range;
  few : l.finder.greatest ≤ 512 * l.i;
  greatest : l.finder.greatest ≡ greatest_of (take l.i (numbers_found l.range l.shorts));
  judged : judge l.k 0 (arrivals_from (numbers_found l.range l.shorts) l.times)
      ≡ judge l.k l.reference (drop l.i (arrivals_from (numbers_found l.range l.shorts) l.times));
}
