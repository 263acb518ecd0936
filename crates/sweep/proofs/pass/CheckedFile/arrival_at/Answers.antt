-- `sweep::pass::CheckedFile::arrival_at` meets its contract: the twelve octets of a record are there (`arrival-inside`), and what they say
-- is the record's arrival (`arrival-read`). Assumes nothing.
use native.Mathlib.Omega.{arith}
use Rattle.metrics.proofs.FoundInFile.{arrival-inside, arrival-read}
use Rattle.sweep.proofs.pass.CheckedFile.arrival_at.Goals as goal

pub overflow_add-start : goal.overflow_add-start
overflow_add-start c =
    omega (arith, arrival-inside _ _ c.args.self.now.laid _ c.requires (c.arrivals_at.ensures.sample _))

pub overflow_add-end : goal.overflow_add-end
overflow_add-end c =
    omega (arith, arrival-inside _ _ c.args.self.now.laid _ c.requires (c.arrivals_at.ensures.sample _))

pub slice_bounds-twelve-end : goal.slice_bounds-twelve-end
slice_bounds-twelve-end c = arrival-inside _ _ c.args.self.now.laid _ c.requires (c.arrivals_at.ensures.sample _)

pub returns : goal.returns
returns c =
    arrival-read _ _ c.args.self.now.laid _ c.requires (c.arrivals_at.ensures.sample _) c.arrival_of.ensures
