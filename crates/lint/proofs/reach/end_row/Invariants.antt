-- `reach::end_row` meets its contract. Its loop keeps what the row takes last, and that wherever this row ends the first one ends.
use Prim.Native.Nat.{ℕ}
use mathlib.Core.Path.{◌≡◌}
use Rattle.lint.specs.Reach.{last, Ends}
use Rattle.lint.proofs.reach.end_row.Given as goal

abbrev pub invariant-loop-next : goal.invariant-loop-next
invariant-loop-next l = (l.next ≡ last l.nodes l.x) × ((y : ℕ) → Ends l.nodes l.x y → Ends l.nodes l.row y)

abbrev pub decreases-loop-next : goal.decreases-loop-next
decreases-loop-next l = l.x
