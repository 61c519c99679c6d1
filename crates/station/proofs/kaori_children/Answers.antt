-- `kaori_children` meets its contract: what `places` answers of what `below` answers.
use Rattle.station.specs.Exports.{HasPlaces}
use Rattle.station.proofs.kaori_children.Goals as goal

pub returns : goal.returns
returns c = HasPlaces.places c.below-b.ensures c.places.ensures
