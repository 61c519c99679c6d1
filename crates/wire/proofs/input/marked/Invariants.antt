-- `wire::input::marked` meets its contract: the records up to i have their marks.
use Rattle.wire.specs.Scanned.{Marks}
use Rattle.wire.proofs.input.marked.Given as goal

abbrev pub invariant-loop-i : goal.invariant-loop-i
invariant-loop-i l = Marks l.input l.from l.i
