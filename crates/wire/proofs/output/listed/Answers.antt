-- `wire::output::listed` meets its contract: its parts one after the other.
use Rattle.spelling.proofs.display.Writing.{joined}
use Rattle.wire.specs.Printed.{listed}
use Rattle.wire.proofs.output.listed.Goals as goal

pub returns : goal.returns
unfolding listed
returns c = joined c.line-a.ensures.put (joined c.rows-b.ensures.put (joined c.rows-c.ensures.put c.rows.ensures.put))
