use Rattle.std.proofs.Common.{◌≡◌}
use Rattle.std.specs.Iterator.Adapters.{zip_first, zip_second}
use Rattle.std.specs.Slice.Iter.{iter_rest}
use Rattle.rfc4737.specs.Judge.{arrivals_from, judge}
use Rattle.rfc4737.proofs.judge.judge_lists.Given as goal

-- judging all arrivals is judging what is left of them from the reference
abbrev pub invariant-loop-number : goal.invariant-loop-number
invariant-loop-number l =
    judge l.k 0 (arrivals_from l.numbers l.times)
    ≡ judge l.k l.reference (arrivals_from (iter_rest (zip_first l.number-iterator)) (iter_rest (zip_second l.number-iterator)))
