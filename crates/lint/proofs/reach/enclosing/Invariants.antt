-- `reach::enclosing` meets its contract. Its loop goes back token by token, and keeps that from there on the same bracket is found.
use Prim.Native.Nat.{◌+◌, ◌≤◌}
use mathlib.Core.Path.{◌≡◌}
use Rattle.lint.specs.Reach.{enclosing}
use Rattle.lint.proofs.reach.enclosing.Given as goal

abbrev pub invariant-loop-i : goal.invariant-loop-i
invariant-loop-i l = (enclosing l.tokens l.i l.closed ≡ enclosing l.tokens l.k 0) × (l.closed + l.i ≤ l.k)
