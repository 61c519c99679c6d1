-- `put_excerpt` is safe and ends: each turn goes on in the text.
use Prim.Native.Nat.{◌-◌, ◌≤◌}
use lib.ListN.{length}
use Rattle.page.proofs.Line.put_excerpt.Given as goal

abbrev pub invariant-loop-i : goal.invariant-loop-i
invariant-loop-i l = l.upto ≤ length l.text

abbrev pub decreases-loop-i : goal.decreases-loop-i
decreases-loop-i l = l.upto - l.i
