-- `reached` meets its contract: an `and` or an `or`, whose sign has no bracket open before it.
use Rattle.children.proofs.Laws.{number_is}
use Rattle.lint.proofs.Laws.{reached_by, not_joined}
use Rattle.lint.proofs.reached.Goals as goal

pub returns-then-joins : goal.returns-then-joins
returns-then-joins c = reached_by (number_is c.node.ensures) c.joins.ensures c.if-joins.true c.sign.ensures (number_is c.node-then-joins.ensures) c.brackets.ensures

pub returns-else-joins : goal.returns-else-joins
returns-else-joins c = rw c.if-joins.false (not_joined (number_is c.node.ensures) c.joins.ensures c.if-joins.false)
