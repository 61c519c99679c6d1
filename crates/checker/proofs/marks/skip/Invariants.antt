-- `skip` meets its contract: a jump after another, until one stays or the last link is passed.
use Prim.Native.Nat.{◌-◌}
use mathlib.Core.Path.{◌≡◌}
use lib.ListN.{length}
use Rattle.checker.specs.Marks.{Skips}
use Rattle.checker.proofs.marks.skip.Given as goal

abbrev pub invariant-loop-at : goal.invariant-loop-at
invariant-loop-at l = Skips l.base l.from l.end l.initial.marks l.marks l.at × (length l.marks ≡ length l.initial.marks)

abbrev pub decreases-loop-at : goal.decreases-loop-at
decreases-loop-at l = l.end - l.at
