-- `row_links` meets its contract: what is counted is the links of the lists among the numbers so far.
use Rattle.packing.proofs.Moving.{Sized}
use Rattle.packing.proofs.pack.row_links.Given as goal

abbrev pub invariant-loop-j : goal.invariant-loop-j
invariant-loop-j l = Sized l.nodes l.row l.j l.size
