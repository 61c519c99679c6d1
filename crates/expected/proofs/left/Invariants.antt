-- `left` meets its contract: token by token the stack is what is left, each taken within the limit; or reading is not refused at the place.
use Rattle.grammar.specs.Edition.{edition as the-edition}
use Rattle.expected.proofs.Leaving.{Leaving}
use Rattle.expected.proofs.left.Given as goal

abbrev pub invariant-loop-i : goal.invariant-loop-i
invariant-loop-i l = Leaving (the-edition l.edition) l.tokens l.limit l.room l.top l.depth l.i
