-- `cmd_picture::stairs::size_at` is safe: its product fits (`product-fits`). Assumes nothing.
use Rattle.cmd_picture.proofs.Products.{product-fits}
use Rattle.std.proofs.Common.{rules}
use Rattle.cmd_picture.proofs.stairs.size_at.Goals as goal

pub overflow_mul-result : goal.overflow_mul-result
overflow_mul-result c = product-fits _ _ (search rules) (search rules)
