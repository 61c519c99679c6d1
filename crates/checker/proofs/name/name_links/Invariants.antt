-- `name_links` meets its contract: from link to link, whatever is left of the list then decides what all of it does.
use Prim.Native.Nat.{◌+◌, ◌-◌, ◌≤◌}
use lib.ListN.{length}
use Rattle.checker.proofs.Walking.{Walkable, Walks}
use Rattle.checker.proofs.name.name_links.Given as goal

abbrev pub invariant-loop-at : goal.invariant-loop-at
invariant-loop-at l = Walkable l.rows l.row l.two l.links l.base l.end × Walks l.rows l.row l.two l.links l.end l.initial.at l.initial.marks l.at l.marks × (l.base + l.end ≤ length l.marks)

abbrev pub decreases-loop-at : goal.decreases-loop-at
decreases-loop-at l = l.end - l.at
