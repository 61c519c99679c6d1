-- `room::copy` meets its contract: after i turns the first i numbers are there.
use Prim.Native.Nat.{◌+◌}
use lib.ListN.{take, drop}
use Rattle.ast.specs.Written.{Written}
use Rattle.ast.proofs.room.copy.Given as goal

abbrev pub invariant-loop-i : goal.invariant-loop-i
invariant-loop-i l = Written l.at (l.at + l.i) (take l.i (drop l.first l.from)) l.initial.to l.to
