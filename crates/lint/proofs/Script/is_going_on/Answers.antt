-- `Script::is_going_on` meets its contract: by the kind of the row, and by where its token stands.
use native.Mathlib.Omega.{arith}
use Rattle.std.proofs.lemmas.Bool.{lt-leb}
use Rattle.children.proofs.Laws.{number_is}
use Rattle.lint.proofs.Laws.{call_goes_on, sum_goes_on, neither, other_sign}
use Rattle.lint.proofs.Script.is_going_on.Goals as goal

pub returns-in-15 : goal.returns-in-15
returns-in-15 c = call_goes_on (number_is c.node.ensures) c.in-15.is (number_is c.node-in-15.ensures) c.first_past.ensures c.on_new_line.ensures

pub returns-then-node-le1 : goal.returns-then-node-le1
returns-then-node-le1 c = sum_goes_on (number_is c.node.ensures) c.in-1.is (number_is c.node-in-1.ensures) c.if-node-le1.true c.sign.ensures c.on_new_line-then-node-le1.ensures

pub returns-else-node-le1 : goal.returns-else-node-le1
returns-else-node-le1 c = rw (lt-leb _ _ c.if-node-le1.false) (other_sign (number_is c.node.ensures) (omega arith) (number_is c.node-in-1.ensures) c.if-node-le1.false)

pub returns-in_default : goal.returns-in_default
returns-in_default c = neither (number_is c.node.ensures) (omega arith) (omega arith)
