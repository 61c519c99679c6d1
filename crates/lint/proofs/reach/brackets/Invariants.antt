-- `reach::brackets` meets its contract: one token after another.
use Prim.Native.Nat.{◌≤◌}
use mathlib.Core.Path.{◌≡◌}
use Rattle.lint.specs.Reach.{brackets}
use Rattle.lint.proofs.reach.brackets.Given as goal

abbrev pub invariant-loop-i : goal.invariant-loop-i
invariant-loop-i l = (l.so_far ≡ brackets l.tokens l.offset l.i) × (l.so_far ≤ l.i)
