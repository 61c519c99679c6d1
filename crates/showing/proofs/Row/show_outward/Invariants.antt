-- `Row::show_outward` ends: each row has a greater number than the one before.
use Prim.Native.Nat.{◌-◌, ◌^◌}
use Rattle.showing.proofs.Row.show_outward.Given as goal

abbrev pub decreases-loop-above : goal.decreases-loop-above
decreases-loop-above l = 2 ^ 32 - l.row.id
