-- `digits::number` meets its contract: each turn takes a digit off what is left.
use Prim.Native.Nat.{◌≤◌}
use lib.ListN.{length}
use Rattle.listed.proofs.digits.number.Given as goal

abbrev pub invariant-loop-rest : goal.invariant-loop-rest
invariant-loop-rest l = length l.rest ≤ length l.text

abbrev pub decreases-loop-rest : goal.decreases-loop-rest
decreases-loop-rest l = length l.rest
