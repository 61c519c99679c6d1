-- `line::rows` meets its contract: what is left is no longer than the text.
use Prim.Native.Nat.{◌≤◌}
use lib.ListN.{length}
use Rattle.listed.proofs.line.rows.Given as goal

abbrev pub invariant-loop-i : goal.invariant-loop-i
invariant-loop-i l = length l.left ≤ length l.text
