-- `pieces::bound` meets its contract: each arm's row is that of its kind.
use Rattle.reading.proofs.pieces.bound.Goals as goal

pub returns-in-25 : goal.returns-in-25
returns-in-25 c = rw c.in-25.is c.variable.ensures

pub returns-in-26 : goal.returns-in-26
returns-in-26 c = rw c.in-26.is c.constant.ensures
