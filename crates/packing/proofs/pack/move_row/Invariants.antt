-- `move_row` meets its contract: the numbers so far are moved, and those from the one that is read on are as they were.
use Rattle.packing.specs.Seen.{moves_of}
use Rattle.packing.proofs.Moving.{Rowed}
use Rattle.packing.proofs.pack.move_row.Given as goal

abbrev pub invariant-loop-j : goal.invariant-loop-j
invariant-loop-j l = Rowed (moves_of l.m) l.initial.nodes l.row l.to l.j l.nodes
