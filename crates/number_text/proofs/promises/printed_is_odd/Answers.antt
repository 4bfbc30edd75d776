use Rattle.number_text.proofs.RoundTrip.{printed-is-odd}
use Rattle.number_text.proofs.promises.printed_is_odd.Goals as goal

pub returns : goal.returns
returns c = printed-is-odd
