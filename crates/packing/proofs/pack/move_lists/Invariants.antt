-- `move_lists` meets its contract: the lists among the numbers so far are moved, one behind another, and those after them are as they were.
use Rattle.packing.specs.Seen.{moves_of}
use Rattle.packing.proofs.Moving.{ListsDone}
use Rattle.packing.proofs.pack.move_lists.Given as goal

abbrev pub invariant-loop-j : goal.invariant-loop-j
invariant-loop-j l = ListsDone (moves_of l.m) l.nodes l.initial.links l.row l.m.to l.to l.j l.links
