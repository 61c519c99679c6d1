-- `hear_builtins` meets its contract: the symbols so far are known.
use Prim.Native.Nat.{◌≤◌}
use mathlib.Core.Path.{◌≡◌}
use lib.ListN.{length}
use Rattle.packing.specs.Known.{Built}
use Rattle.packing.proofs.hear.hear_builtins.Given as goal

abbrev pub invariant-loop-x : goal.invariant-loop-x
invariant-loop-x l = Built l.x l.initial.scratch l.scratch × (l.x ≤ l.builtins) × (length l.scratch ≡ length l.initial.scratch)
