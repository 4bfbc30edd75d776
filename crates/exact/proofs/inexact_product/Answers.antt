use Rattle.exact.proofs.Controls.{inexact_product}
use Rattle.exact.proofs.inexact_product.Goals as goal

pub returns : goal.returns
returns c = inexact_product
