-- `move_list` meets its contract: the links so far are moved, and those from the place that is read on are as they were.
use Prim.Native.Nat.{◌≤◌}
use Rattle.packing.specs.Digits.{digit}
use Rattle.packing.specs.Seen.{moves_of}
use Rattle.packing.proofs.Moving.{Listed}
use Rattle.packing.proofs.pack.move_list.Given as goal

abbrev pub invariant-loop-k : goal.invariant-loop-k
invariant-loop-k l = Listed (moves_of l.m) (digit l.role) l.initial.links l.from l.to l.k l.links × (l.k ≤ l.count)
