-- `kaori_child` meets its contract: what `child` answers of what `below` answers.
use Rattle.station.specs.Exports.{HasChild}
use Rattle.station.proofs.kaori_child.Goals as goal

pub returns : goal.returns
returns c = HasChild.child c.below-b.ensures c.child.ensures
