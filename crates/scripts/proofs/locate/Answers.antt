-- `locate` meets its contract: four cuts, and the rows by their number.
use Prim.Native.Nat.{◌+◌}
use native.Mathlib.Omega.{arith}
use Rattle.scripts.proofs.Cuts.{rows_few}
use Rattle.scripts.proofs.locate.Goals as goal

pub overflow_mul-result : goal.overflow_mul-result
overflow_mul-result c = let s = c in omega (arith, rows_few {rows = s.args.part} {n = s.args.i} (omega (arith, s.ranges.part)) (omega (arith, s.requires)))

pub overflow_mul-result-2 : goal.overflow_mul-result-2
overflow_mul-result-2 c = let s = c in omega (arith, rows_few {rows = s.args.part} {n = s.args.i + 1} (omega (arith, s.ranges.part)) (omega (arith, s.requires)))
