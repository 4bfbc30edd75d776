use Rattle.element.proofs.Step.{product_subtracted}
use Rattle.element.proofs.call.product_subtracted.Goals as goal

pub returns : goal.returns
returns c = product_subtracted
