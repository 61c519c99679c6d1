-- `adopt` meets its contract: row by row, each with the parents of the rows before it.
use Rattle.parents.proofs.Adopting.{Adopting}
use Rattle.parents.proofs.adopt.Given as goal

abbrev pub invariant-loop-row : goal.invariant-loop-row
invariant-loop-row l = Adopting l.count l.links l.initial.nodes l.row l.nodes
