-- `pieces::joined` meets its contract: `and`, `or`, and any other operator, whose number is its place.
use Rattle.reading.proofs.pieces.joined.Goals as goal

pub returns-in-22 : goal.returns-in-22
returns-in-22 c = rw c.in-22.is c.logical_and.ensures

pub returns-in-23 : goal.returns-in-23
returns-in-23 c = rw c.in-23.is c.logical_or.ensures
