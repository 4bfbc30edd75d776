use Rattle.exact.proofs.Controls.{product-below-range}
use Rattle.exact.proofs.product_below_range.Goals as goal

pub returns : goal.returns
returns c = product-below-range
