-- `replay::main` is safe and ends: no more answers agree than there are, and there are at most 1,000,000.
use Prim.Native.Nat.{◌≤◌}
use Rattle.replay.proofs.main.Given as goal

abbrev pub invariant-loop : goal.invariant-loop
invariant-loop l = (l.agree ≤ l.all) × (l.all ≤ l.counter)
