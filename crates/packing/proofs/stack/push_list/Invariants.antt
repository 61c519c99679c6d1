-- `push_list` meets its contract: from the last link to the first, those that came are the list from here on.
use Prim.Native.Nat.{◌+◌, ◌-◌, ◌≤◌}
use mathlib.Core.Path.{◌≡◌}
use lib.ListN.{length}
use Rattle.packing.specs.Digits.{digit}
use Rattle.packing.specs.Seen.{seen}
use Rattle.packing.specs.Roles.{list_parts}
use Rattle.packing.specs.Stack.{Pushed}
use Rattle.packing.proofs.stack.push_list.Given as goal

abbrev pub invariant-loop-left : goal.invariant-loop-left
invariant-loop-left l = Pushed (seen l.rows) l.top (list_parts (digit l.role) l.rows.links.now (l.from + l.left) (l.count - l.left)) l.initial.stack l.stack l.above × (l.left ≤ l.count) × (length l.stack ≡ length l.initial.stack)
