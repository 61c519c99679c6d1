-- `scan::past_blanks` meets its contract: all bytes passed are blanks.
use Prim.Native.Nat.{ℕ, ◌≤◌, ◌<◌}
use Rattle.lexer.specs.Reads.{Blank}
use Rattle.lexer.proofs.scan.past_blanks.Given as goal

abbrev pub invariant-loop-at : goal.invariant-loop-at
invariant-loop-at l = (k : ℕ) → l.from ≤ k → k < l.at → Blank l.text k
