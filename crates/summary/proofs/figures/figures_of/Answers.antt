-- `summary::figures::figures_of` meets its contract: each figure is that of a call (`counted`, `several`, `disordered`), and K that of the
-- layout. Here d is the decoded file, r what a call answers. Assumes nothing.
use Rattle.std.proofs.Common.{◌≡◌, ap, arith}
use lib.Dec.{ltb}
use Rattle.rfc4737.specs.declared.Counts.{Counts}
use Rattle.rfc4737.specs.Runs.{counts}
use Rattle.sample.specs.declared.Layout.{Layout}
use Rattle.sample.specs.Decode.{Decoded, decode}
use Rattle.disorder.specs.declared.SampleDisorder.{SampleDisorder}
use Rattle.disorder.specs.Sample.{disorder_of, sample_disorder}
use Rattle.summary.specs.Figures.{figures_of}
use Rattle.summary.proofs.Counted.{counted, several}
use Rattle.summary.proofs.figures.figures_of.Goals as goal

-- the total of disorder
disordered : (d : Decoded) (r : SampleDisorder) → r ≡ sample_disorder d → r.total ≡ disorder_of d
unfolding sample_disorder
disordered d r e = ap (λ (r : SampleDisorder). r.total) e

pub returns : goal.returns
unfolding figures_of counts
returns c =
    let d = decode c.args.file.now in
    let numbers = counted d c.counts.result c.counts.ensures in
    let arrived = ap (λ (k : Counts). k.arrived) numbers in
    let sent = ap (λ (y : Layout). y.sent) c.requires.laid in
    λ i.
    record {
      sent = sent i;
      arrived = arrived i;
      copies = (numbers i).duplicates;
      reordered = (numbers i).reordered;
      reordered1 = several d 1 c.n_reordered-first.result (omega arith) (omega arith) c.n_reordered-first.ensures i;
      reordered3 = several d 3 c.n_reordered-third.result (omega arith) (omega arith) c.n_reordered-third.ensures i;
      disorder = disordered d c.total-disorder.result c.total-disorder.ensures.total i;
      lost = ltb (arrived i) (sent i);
      back = c.steps_back-back.ensures i;
    }
