-- `pack_list` meets its contract: the statements so far that are kept stand in the list, and those after them are as they were.
use Rattle.packing.proofs.Moving.{Chosen}
use Rattle.packing.proofs.pack.pack_list.Given as goal

abbrev pub invariant-loop-j : goal.invariant-loop-j
invariant-loop-j l = Chosen l.initial.links l.places l.choice l.first l.to l.at l.j l.links
