-- `next` meets its contract: one row after another.
use Rattle.lint.specs.Rules.{Meets}
use Rattle.lint.proofs.Laws.{Passed}
use Rattle.lint.proofs.next.Given as goal

abbrev pub invariant-loop-row : goal.invariant-loop-row
invariant-loop-row l = Passed (Meets l.rule l.text l.tokens l.nodes) l.from l.row
