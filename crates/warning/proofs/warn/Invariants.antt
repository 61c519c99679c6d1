-- `warn` ends: the next row that meets a rule comes later.
use Prim.Native.Nat.{◌-◌}
use Rattle.warning.proofs.warn.Given as goal

abbrev pub decreases-loop-row : goal.decreases-loop-row
decreases-loop-row l = l.tree.rows - l.from
