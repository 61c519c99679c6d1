-- `options::options` meets its contract: the next argument goes on, and not past the last one.
use Prim.Native.Nat.{◌-◌, ◌≤◌}
use Rattle.kaori.proofs.options.options.Given as goal

abbrev pub invariant-loop-now : goal.invariant-loop-now
invariant-loop-now l = (l.fn.choice.next ≤ l.now.next) × (l.now.next ≤ l.end)

abbrev pub decreases-loop-now : goal.decreases-loop-now
decreases-loop-now l = l.end - l.now.next
