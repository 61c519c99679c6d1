-- `linked` meets its contract: all links before the one that is looked at keep the rule, and the marks are right (`Walked`).
use Prim.Native.Nat.{◌-◌, ◌≤◌}
use Rattle.checker.proofs.Keeping.{many, Walked}
use Rattle.checker.proofs.keep.Asked.linked.Given as goal

abbrev pub invariant-loop-at : goal.invariant-loop-at
invariant-loop-at l = Walked l.self l.of l.links l.base l.from l.initial.marks l.marks l.at × (l.end ≤ many l.links)

abbrev pub decreases-loop-at : goal.decreases-loop-at
decreases-loop-at l = l.end - l.at
