-- `same` meets its contract: all bytes passed, from the last one down to the rest, are alike.
use Prim.Native.Nat.{ℕ, ◌≤◌, ◌<◌}
use mathlib.Core.Path.{◌≡◌}
use lib.ListN.{length, get_or}
use Rattle.interner.proofs.same.Given as goal

abbrev pub invariant-loop-i : goal.invariant-loop-i
invariant-loop-i l = (l.i ≤ length l.word) × ((k : ℕ) → l.i ≤ k → k < length l.word → get_or l.row k 0 ≡ get_or l.word k 0)
