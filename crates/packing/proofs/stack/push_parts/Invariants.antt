-- `push_parts` meets its contract: from the last number to the first, what came is what the numbers from here on hold.
use Prim.Native.Nat.{◌-◌, ◌≤◌}
use mathlib.Core.Path.{◌≡◌}
use lib.ListN.{length}
use Rattle.packing.specs.Seen.{seen}
use Rattle.packing.specs.Roles.{numbers_parts}
use Rattle.packing.specs.Stack.{Pushed}
use Rattle.packing.proofs.stack.push_parts.Given as goal

abbrev pub invariant-loop-j : goal.invariant-loop-j
invariant-loop-j l = Pushed (seen l.rows) l.top (numbers_parts l.rows.nodes.now l.rows.links.now l.row l.j (9 - l.j)) l.initial.stack l.stack l.above × (l.j ≤ 9) × (length l.stack ≡ length l.initial.stack)
