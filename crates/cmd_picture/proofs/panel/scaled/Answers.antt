-- `cmd_picture::panel::scaled` meets its contract: the products fit (`product-fits`). Assumes nothing.
use Rattle.std.proofs.Common.{rules}
use Rattle.cmd_picture.proofs.Products.{product-fits}
use Rattle.cmd_picture.proofs.panel.scaled.Goals as goal

pub overflow_mul-result : goal.overflow_mul-result
overflow_mul-result c = product-fits _ _ (search rules) (search rules)

pub overflow_mul-result-2 : goal.overflow_mul-result-2
overflow_mul-result-2 c = product-fits _ _ (search rules) (search rules)
