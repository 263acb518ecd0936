-- The figures in the summary of a sample. Assumes nothing.
use Rattle.std.specs.Prelude.{ℕ, List, ltb, length}
use Rattle.rfc4737.specs.declared.Answer.{Answer}
use Rattle.rfc4737.specs.declared.Measure.{Measure}
use Rattle.rfc4737.specs.Runs.{arrived, counts}
use Rattle.rfc4737.specs.Ratios.{n_reordered}
use Rattle.rfc4737.specs.Times.{steps_back}
use Rattle.sample.specs.Decode.{Decoded, sample_of}
use Rattle.metrics.specs.Sample.{sample_arrivals, answers_of}
use Rattle.disorder.specs.Sample.{disorder_of}
use Rattle.buffering.specs.Least.{least_size}
use Rattle.summary.specs.declared.figures.Figures.{Figures}
use Rattle.summary.specs.declared.figures.Sizes.{Sizes}

-- K; the first arrivals, the copies, the reordered packets; the 1-reordered and 3-reordered packets; the total of disorder; whether
-- packets were lost, and whether the clock steps back
unfoldable pub figures_of : Decoded → Figures
figures_of d =
    record {
      sent = length (sample_of d).sizes;
      arrived = arrived (answers_of d);
      copies = (counts (answers_of d)).duplicates;
      reordered = (counts (answers_of d)).reordered;
      reordered1 = n_reordered 1 (answers_of d);
      reordered3 = n_reordered 3 (answers_of d);
      disorder = disorder_of d;
      lost = ltb (arrived (answers_of d)) (length (sample_of d).sizes);
      back = steps_back 0 (sample_arrivals d);
    }

-- the least sizes for `share` percent of the packets that arrived
unfoldable pub sizes_for : List Answer → ℕ → Sizes
sizes_for l share =
    record {
      time = least_size Measure.Time share 100 l;
      packets = least_size Measure.Packets share 100 l;
      octets = least_size Measure.Octets share 100 l;
    }
