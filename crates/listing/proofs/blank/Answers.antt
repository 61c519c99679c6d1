-- `listing::blank` meets its contract.
use Rattle.wire.proofs.Outputs.{blank}
use Rattle.listing.proofs.blank.Goals as goal

pub returns : goal.returns
returns c = blank 262144
