-- `Warning::in_condition` ends: a parent has a greater number than its child.
use Prim.Native.Nat.{◌-◌, ◌^◌}
use Rattle.warning.proofs.Warning.in_condition.Given as goal

abbrev pub decreases-loop-above : goal.decreases-loop-above
decreases-loop-above l = 2 ^ 32 - l.row.id
