-- `kaori_message` meets its contract: the length handed back is the one that `message` answers.
use Rattle.station.specs.Exports.{Writes}
use Rattle.station.proofs.kaori_message.Goals as goal

pub returns : goal.returns
returns c = Writes.written c.message-m.ensures
