-- `reach::first_past` meets its contract: one token after another.
use Rattle.lint.specs.Reach.{Past}
use Rattle.lint.proofs.Laws.{Passed}
use Rattle.lint.proofs.reach.first_past.Given as goal

abbrev pub invariant-loop-k : goal.invariant-loop-k
invariant-loop-k l = Passed (Past l.tokens l.offset) 0 l.k
