-- `wire::output::line` meets its contract: its parts one after the other.
use native.Mathlib.Omega.{arith}
use Rattle.spelling.proofs.display.Writing.{joined}
use Rattle.wire.specs.Printed.{line}
use Rattle.wire.proofs.output.line.Goals as goal

pub returns : goal.returns
unfolding line
returns c =
    let lead = c.put-a.ensures in
    let values = c.numbers-b.ensures in
    let end = c.put.ensures in
    record { put = joined lead (joined values.put end); most = omega (arith, lead.ends, values.most, end.ends) }
