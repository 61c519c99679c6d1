-- `take_listed` meets its contract: a claim for each link, or two for each.
use Rattle.parents.specs.Adopted.{listed}
use Rattle.parents.proofs.Laws.{Claimed}
use Rattle.parents.proofs.take_listed.Given as goal

abbrev pub invariant-loop-i : goal.invariant-loop-i
invariant-loop-i g l = Claimed (listed g.row.EACH) l.row l.links l.from l.i l.initial.nodes l.nodes
