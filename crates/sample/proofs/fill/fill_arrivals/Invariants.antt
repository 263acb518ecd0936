-- Each list holds the values of the arrivals so far, then what it held; the other arrivals are those in the octets left.
use Rattle.std.proofs.Common.{◌≡◌, ◌≤◌, ◌++◌, take, drop}
use Rattle.std.specs.Slice.Iter.{chunks_exact_rest, chunks_exact_size}
use Rattle.std.specs.Iterator.Adapters.{enumerate_source, enumerate_count}
use Rattle.rfc4737.specs.Judge.{numbers_of, times_of}
use Rattle.sample.specs.Format.{arrival_width, items_in}
use Rattle.sample.specs.Decode.{arrival_in}
use Rattle.sample.proofs.Chunks.{arrivals_left}
use Rattle.sample.proofs.fill.fill_arrivals.Given as goal

abbrev pub invariant-loop-i : goal.invariant-loop-i
invariant-loop-i l =
    let all = items_in arrival_width arrival_in l.count (drop l.at l.file) in
    let i = enumerate_count l.i-iterator in
    record {
      can : (goal.iterator-loop-i).can_next l.i-iterator;
      finite : (goal.iterator-loop-i).is_finite l.i-iterator;
      size : chunks_exact_size (enumerate_source l.i-iterator) ≡ arrival_width;
      within : i ≤ l.count;
      left : arrivals_left arrival_in (chunks_exact_rest (enumerate_source l.i-iterator)) ≡ drop i all;
      numbers : l.numbers ≡ take i (numbers_of all) ++ drop i l.initial.numbers;
      times : l.times ≡ take i (times_of all) ++ drop i l.initial.times;
    }
