use Rattle.element.proofs.Subtraction.{products_subtracted}
use Rattle.element.proofs.call.products_subtracted.Goals as goal

pub returns : goal.returns
returns c = products_subtracted
