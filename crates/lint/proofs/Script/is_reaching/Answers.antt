-- `Script::is_reaching` meets its contract: one row after another of what the `not` took.
use Rattle.spelling.proofs.Deciding.{held, failed, said}
use Rattle.children.proofs.Laws.{number_is}
use Rattle.lint.proofs.Laws.{a_step, reaching_from, reaching_nothing, no_not}
use Rattle.lint.proofs.Script.is_reaching.Goals as goal

pub returns-then-node-ne-LOGICAL_NOT : goal.returns-then-node-ne-LOGICAL_NOT
returns-then-node-ne-LOGICAL_NOT c = no_not (number_is c.node.ensures) c.if-node-ne-LOGICAL_NOT.true

pub returns-then-reached : goal.returns-then-reached
returns-then-reached c = let l = c.loop-x in reaching_from (number_is c.node.ensures) c.if-node-ne-LOGICAL_NOT.false l.invariant.0 l.invariant.1 c.loop-x-test.true (held (said c.reached.ensures c.if-reached.true))

pub loop-x-preserved : goal.loop-x-preserved
loop-x-preserved c = let l = c.loop-x in (a_step l.invariant.0 l.invariant.1 c.loop-x-test.true (failed (said c.reached.ensures c.if-reached.false)), c.last-x-in-loop-x.ensures)

pub returns : goal.returns
returns c = let l = c.loop-x in reaching_nothing l.invariant.0 l.invariant.1 c.loop-x-test.false
