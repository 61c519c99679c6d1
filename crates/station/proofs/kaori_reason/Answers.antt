-- `kaori_reason` meets its contract: the length handed back is the one that `reason` answers.
use Rattle.station.specs.Exports.{WritesReason}
use Rattle.station.proofs.kaori_reason.Goals as goal

pub returns : goal.returns
returns c = WritesReason.written c.reason-m.ensures
