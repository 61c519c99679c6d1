-- `wire::output::told` meets its contract: the message stands first in the part of the room from the place on.
use Rattle.wire.proofs.Lines.{told_at}
use Rattle.wire.proofs.output.told.Goals as goal

pub returns : goal.returns
returns c = told_at c.requires c.message.ensures
