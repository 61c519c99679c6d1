-- `commands` ends: each turn goes on to the next `then`.
use Prim.Native.Nat.{◌-◌}
use Rattle.kaori.proofs.commands.Given as goal

abbrev pub decreases-loop-end : goal.decreases-loop-end
decreases-loop-end l = l.n - l.end
