-- Judging all arrivals is judging those in the octets left, from the reference.
use Rattle.std.proofs.Common.{◌≡◌, drop}
use Rattle.std.specs.Slice.Iter.{chunks_exact_rest, chunks_exact_size}
use Rattle.rfc4737.specs.Judge.{judge}
use Rattle.sample.specs.Format.{arrival_width, items_in}
use Rattle.sample.specs.Decode.{arrival_in}
use Rattle.sample.proofs.Chunks.{arrivals_left}
use Rattle.sample.proofs.judge.judge_file.Given as goal

abbrev pub invariant-loop-twelve : goal.invariant-loop-twelve
invariant-loop-twelve l =
    record {
      size : chunks_exact_size l.twelve-iterator ≡ arrival_width;
      finite : (goal.iterator-loop-twelve).is_finite l.twelve-iterator;
      left : judge l.sent 0 (items_in arrival_width arrival_in l.count (drop l.at l.file))
          ≡ judge l.sent l.reference (arrivals_left arrival_in (chunks_exact_rest l.twelve-iterator));
    }
