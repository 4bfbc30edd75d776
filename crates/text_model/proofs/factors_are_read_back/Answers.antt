use Rattle.text_model.proofs.ReadBack.{factors-read-back}
use Rattle.text_model.proofs.factors_are_read_back.Goals as goal

pub returns : goal.returns
returns c = factors-read-back
