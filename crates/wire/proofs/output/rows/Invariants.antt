-- `wire::output::rows` meets its contract: the lines of the rows up to i are written.
use Prim.Native.Nat.{◌*◌}
use Rattle.wire.specs.Lines.{PutWithin, line_size}
use Rattle.wire.specs.Printed.{rows}
use Rattle.wire.proofs.output.rows.Given as goal

abbrev pub invariant-loop-i : goal.invariant-loop-i
invariant-loop-i l = PutWithin (line_size * l.i) (rows l.lead l.width l.source l.i) l.at l.initial.room l.room l.k
