-- `tokens` meets its contract: the loop keeps what is made so far (`Made`), and each return is a way in which that ends.
use Prim.Native.Nat.{◌-◌}
use lib.ListN.{length}
use Rattle.lexer.proofs.Making.{Made}
use Rattle.lexer.proofs.tokens.Given as goal

abbrev pub invariant-loop-at : goal.invariant-loop-at
invariant-loop-at l = Made l.text l.initial.list l.rows l.list l.count l.at

abbrev pub decreases-loop-at : goal.decreases-loop-at
decreases-loop-at l = length l.text - l.at
