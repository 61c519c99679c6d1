-- `first_unclosed` meets its contract: the loop keeps that every token passed is Eof just where it is last.
use Prim.Native.Nat.{◌/◌}
use lib.ListN.{length}
use Rattle.grammar.specs.Door.{Closed}
use Rattle.door.proofs.Searching.{Passed}
use Rattle.door.proofs.first_unclosed.Given as goal

abbrev pub invariant-loop-i : goal.invariant-loop-i
invariant-loop-i l = Passed (Closed l.tokens) (length l.tokens / 3) l.i
