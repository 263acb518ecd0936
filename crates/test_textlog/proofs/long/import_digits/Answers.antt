-- `test_textlog::long::import_digits` lends a log of the length that it was made with.
use Rattle.std.proofs.Common.{sym, ℕ}
use Rattle.std.proofs.lemmas.List.{length-replicate}
use Rattle.test_textlog.proofs.long.import_digits.Goals as goal

pub slice_bounds-import_between-end : goal.slice_bounds-import_between-end
slice_bounds-import_between-end g c = sym (length-replicate {A = ℕ} 1000010 c.args.digit)
