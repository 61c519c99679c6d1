-- `first_stop` meets its contract: what its loop leaves behind passes the kind on, wherever the token is, and its marks are counted.
use Rattle.grammar.specs.Edition.{edition as the-edition}
use Rattle.expected.specs.Steps.{Above}
use Rattle.expected.proofs.stack.first_stop.Given as goal

abbrev pub invariant-loop-at : goal.invariant-loop-at
invariant-loop-at l = Above (the-edition l.edition) l.kind l.top l.room l.at l.marks
