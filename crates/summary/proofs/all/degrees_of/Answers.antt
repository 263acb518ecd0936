-- `summary::all::degrees_of` meets its contract: the next number stands after those found (`several-next`). Assumes nothing.
use Rattle.std.proofs.Common.{arith, rules}
use Rattle.sample.specs.Decode.{decode}
use Rattle.metrics.specs.Sample.{answers_of}
use Rattle.summary.proofs.Counted.{several, several-next}
use Rattle.summary.proofs.all.degrees_of.Goals as goal

pub loop-i-preserved : goal.loop-i-preserved
loop-i-preserved c =
    let l = c.loop-i in
    let d = decode c.args.file.now in
    record {
      places = search rules;
      found =
          several-next (answers_of d) l.degrees l.i _ (omega arith) l.invariant.found
          (several d _ c.n_reordered.result (omega arith) (omega arith) c.n_reordered.ensures);
    }
