-- `leave_out` meets its contract: token by token.
use Rattle.names.specs.Resolved.{LeftOut}
use Rattle.names.proofs.leave_out.Given as goal

abbrev pub invariant-loop-i : goal.invariant-loop-i
invariant-loop-i l = LeftOut l.tokens l.from l.i l.initial.scratch l.scratch
