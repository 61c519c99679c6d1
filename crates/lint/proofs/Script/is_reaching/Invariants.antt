-- `Script::is_reaching` meets its contract: one row after another of what the `not` took.
use mathlib.Core.Path.{◌≡◌}
use Rattle.lint.specs.Reach.{last}
use Rattle.lint.specs.Rules.{Reached}
use Rattle.lint.proofs.Laws.{Walked}
use Rattle.lint.proofs.Script.is_reaching.Given as goal

abbrev pub invariant-loop-x : goal.invariant-loop-x
invariant-loop-x l = Walked l.self.nodes.now (Reached l.self.tokens.now l.self.nodes.now l.row) l.row l.above × (l.x ≡ last l.self.nodes.now l.above)

abbrev pub decreases-loop-x : goal.decreases-loop-x
decreases-loop-x l = l.above
