-- `Script::is_long` meets its contract: the row is a string or it is not, and its span has the lines.
use borrow.Author.Tests.{ne_eqb}
use Rattle.children.proofs.Laws.{number_is}
use Rattle.lint.proofs.Laws.{no_string, a_string}
use Rattle.lint.proofs.Script.is_long.Goals as goal

pub returns-then-node-eq-STRING : goal.returns-then-node-eq-STRING
returns-then-node-eq-STRING c = a_string (number_is c.node.ensures) c.if-node-eq-STRING.true (number_is c.node-then-node-eq-STRING.ensures) (number_is c.node-then-node-eq-STRING-2.ensures) c.breaks.ensures

pub returns-else-node-eq-STRING : goal.returns-else-node-eq-STRING
returns-else-node-eq-STRING c = rw (ne_eqb _ _ c.if-node-eq-STRING.false) (no_string (number_is c.node.ensures) c.if-node-eq-STRING.false)
