-- `compare::show_nots` is safe: no more are counted than were looked at.
use Prim.Native.Nat.{◌≤◌}
use Rattle.kaori.proofs.compare.show_nots.Given as goal

abbrev pub invariant-loop-i : goal.invariant-loop-i
invariant-loop-i l = l.shown ≤ l.i
