use Rattle.number_text.proofs.RoundTrip.{printed-is-exact}
use Rattle.number_text.proofs.promises.printed_is_exact.Goals as goal

pub returns : goal.returns
returns c = printed-is-exact
