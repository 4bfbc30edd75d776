use Rattle.number_text.proofs.RoundTrip.{round_trip}
use Rattle.number_text.proofs.promises.printed_is_read_back.Goals as goal

pub returns : goal.returns
returns c = round_trip
