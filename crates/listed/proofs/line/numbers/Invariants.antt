-- `line::numbers` meets its contract: what is left is no longer than the text.
use Prim.Native.Nat.{◌≤◌}
use lib.ListN.{length}
use Rattle.listed.proofs.line.numbers.Given as goal

abbrev pub invariant-loop-x : goal.invariant-loop-x
invariant-loop-x l = length l.left ≤ length l.text
