-- `scan::string_end` meets its contract: the string is open up to where the loop stands, and each return is a way in which it ends.
use Prim.Native.Nat.{◌-◌}
use lib.ListN.{length}
use Rattle.lexer.proofs.Strings.{Open}
use Rattle.lexer.proofs.scan.string_end.Given as goal

abbrev pub invariant-loop-at : goal.invariant-loop-at
invariant-loop-at l = Open l.text l.start l.at

abbrev pub decreases-loop-at : goal.decreases-loop-at
decreases-loop-at l = length l.text - l.at
